use Rattle.std.proofs.Common.{◌≡◌, length, take, sum_by}
use Rattle.offline_report.specs.Offline.{part_rows}
use Rattle.offline_report.proofs.parts.cycles_in.Given as goal

abbrev pub invariant-loop-part : goal.invariant-loop-part
invariant-loop-part l = l.count ≡ sum_by (λ part. length (part_rows part)) (take l.part-index l.parts)
