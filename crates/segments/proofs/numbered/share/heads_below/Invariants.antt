use Rattle.std.proofs.Common.{◌≡◌, ℕ, ◌<◌, length, slice_get, Some}
use Rattle.trace_model.specs.Theory.Trace.{last_place}
use Rattle.segments.specs.Notes.{is_of_number, pairs_of}
use Rattle.segments.proofs.numbered.share.heads_below.Given as goal

abbrev pub invariant-loop-number : goal.invariant-loop-number
invariant-loop-number l = record {
  len : length l.below.items ≡ l.number;
  so_far : (m : ℕ) → m < l.number → slice_get l.below.items m ≡ Some (last_place (is_of_number (pairs_of l.notes.0) m) l.count);
}
