use Rattle.std.proofs.Common.{◌≡◌, ℕ, ◌≤◌, ◌↔◌, length, slice_get, Some, vec_capacity}
use Rattle.std.specs.List.{Contains}
use Rattle.held_sets.specs.Tables as Held
use Rattle.dependencies.specs.Tables.{HasDependenciesOf, dependency_places}
use Rattle.replay.proofs.numbers.numbers_of.Given as goal

-- The tables follow the trace so far, and the list has for each place so far the number at which
-- the table has it.
abbrev pub invariant-loop-index : goal.invariant-loop-index
invariant-loop-index l = record {
  numbers : (p m : ℕ) → (slice_get l.numbers.items p ≡ Some (Some m)) ↔ Contains (dependency_places l.table m) p;
  sized : length l.numbers.items ≡ l.index;
  room : length l.trace ≤ vec_capacity l.numbers;
  held : Held.HasHeldSetsOf l.held l.trace l.index;
  table : HasDependenciesOf l.table l.trace l.index;
}
