use Rattle.std.proofs.Common.{take}
use Rattle.replay.specs.Verdict.{order_tests, Passes}
use Rattle.replay.specs.Walking.{IsWalked}
use Rattle.replay.proofs.checking.walk.Given as goal

-- The places so far pass the tests, and the walk passed them.
abbrev pub invariant-loop-k : goal.invariant-loop-k
invariant-loop-k l = record {
  passes : Passes order_tests l.trace (λ k. take k l.order) l.order l.k;
  walked : IsWalked l.trace (take l.k l.order) l.walked;
}
