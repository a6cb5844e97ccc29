use Rattle.std.proofs.Common.{◌≤◌, ℕ, List, take}
use Rattle.lock_graph.specs.Lists.{AreListedWith}
use Rattle.lock_graph.proofs.lists.take_back.Given as goal

abbrev pub invariant-loop-rest : goal.invariant-loop-rest
invariant-loop-rest l = record {
  within : l.rest ≤ l.count;
  listed : (number : ℕ) (before : ℕ → List ℕ) → AreListedWith l.fn.lists (take l.count l.locks) number before → AreListedWith l.lists (take l.rest l.locks) number before;
}

abbrev pub decreases-loop-rest : goal.decreases-loop-rest
decreases-loop-rest l = l.rest
