use Rattle.std.proofs.Common.{◌≡◌, ℕ, ◌-◌, List, length}
use Rattle.trace_model.specs.Theory.Trace.{Trace}
use Rattle.explain.specs.DerivationSearch.{IsSearch}
use Rattle.explain.specs.Needed.{KeepsMarks, AreClosed}
use Rattle.explain.proofs.extract.mark_all.Given as goal

-- The last entries are closed.
abbrev pub invariant-loop-k : goal.invariant-loop-k
invariant-loop-k l = record {
  sized : length l.needed.items ≡ length l.search.entries.items;
  kept : KeepsMarks l.fn.needed.items l.needed.items;
  closed : (s : Trace) (places : List ℕ) → IsSearch s places l.search → AreClosed l.search l.needed.items (length l.search.entries.items - l.k);
}
