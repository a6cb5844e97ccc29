use Rattle.cycle_search.specs.Acquirers.{Acquires, IsListed, IsLeastAbove}
use Rattle.cycle_search.proofs.acquirers.Acquirers.next.Given as goal

abbrev pub invariant-loop-lock : goal.invariant-loop-lock
invariant-loop-lock l = IsLeastAbove l.bound (IsListed (Acquires l.self) l.locks l.lock-index) l.least
