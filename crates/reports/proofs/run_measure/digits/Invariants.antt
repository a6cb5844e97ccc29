use Rattle.std.proofs.Common.{◌≡◌, ◌+◌, length, decimal}
use Rattle.reports.proofs.run_measure.digits.Given as goal

abbrev pub invariant-loop-rest : goal.invariant-loop-rest
invariant-loop-rest l = l.count + length (decimal l.rest) ≡ 1 + length (decimal l.number)

abbrev pub decreases-loop-rest : goal.decreases-loop-rest
decreases-loop-rest l = l.rest
