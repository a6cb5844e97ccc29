use Rattle.std.proofs.Common.{ℕ, List, ◌<◌}
use Rattle.cycle_search.specs.CycleSearch.{CycleFrom}
use Rattle.cycle_search.proofs.absence.has_no_cycle.Given as goal

abbrev pub invariant-loop-root : goal.invariant-loop-root
invariant-loop-root l = (root : ℕ) (numbers : List ℕ) → root < l.root → CycleFrom l.search_input l.bound root numbers → ⊥
