use Rattle.std.proofs.Common.{◌≡◌, ◌≤◌, ℕ, length, nat_eq, vec_capacity}
use Rattle.std.specs.HashMap.{get}
use Rattle.trace_model.specs.declared.traces.event.Op.TheVariants.{Write}
use Rattle.trace_model.specs.Theory.Trace.{does, last_place}
use Rattle.trace_model.specs.Theory.Lookups.{writer}
use Rattle.replay.specs.Facts.{each}
use Rattle.replay.proofs.facts.writers_of.Given as goal

-- The writers so far, and the last write to each variable.
abbrev pub invariant-loop-index : goal.invariant-loop-index
invariant-loop-index l = record {
  writers : l.writers.items ≡ each (writer l.trace) l.index;
  room : length l.trace ≤ vec_capacity l.writers;
  writes : (v : ℕ) → get nat_eq l.writes v ≡ last_place (does l.trace (Write v)) l.index;
}
