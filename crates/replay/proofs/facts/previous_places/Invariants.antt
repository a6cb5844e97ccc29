use Rattle.std.proofs.Common.{◌≡◌, ◌≤◌, ℕ, length, nat_eq, vec_capacity}
use Rattle.std.specs.HashMap.{get}
use Rattle.trace_model.specs.Theory.Trace.{last_place}
use Rattle.replay.specs.Facts.{previous, is_of_thread, each}
use Rattle.replay.proofs.facts.previous_places.Given as goal

-- For each place so far the previous one, and the last one of each thread.
abbrev pub invariant-loop-index : goal.invariant-loop-index
invariant-loop-index l = record {
  previous : l.previous.items ≡ each (previous l.trace) l.index;
  room : length l.trace ≤ vec_capacity l.previous;
  lasts : (t : ℕ) → get nat_eq l.lasts t ≡ last_place (is_of_thread l.trace t) l.index;
}
