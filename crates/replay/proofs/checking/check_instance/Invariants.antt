use Rattle.replay.specs.Verdict.{instance_tests, Passes}
use Rattle.replay.proofs.checking.check_instance.Given as goal

-- The places of the instance so far pass the tests.
abbrev pub invariant-loop-member : goal.invariant-loop-member
invariant-loop-member l = Passes instance_tests l.trace (λ _. l.order) l.instance l.member
