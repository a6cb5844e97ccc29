use Rattle.std.proofs.Common.{◌≡◌, take, sum_by}
use Rattle.offline_report.proofs.parts.confirmed_among.Given as goal

abbrev pub invariant-loop-part : goal.invariant-loop-part
invariant-loop-part l = l.count ≡ sum_by (λ part. part.confirmed) (take l.part-index l.parts)
