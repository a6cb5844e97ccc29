use Rattle.std.proofs.Common.{◌≡◌, ◌+◌, sum_by, take}
use Rattle.trace_model.specs.declared.limits.TheConstants.{MAX_REPORT}
use Rattle.offline_report.specs.Offline.{size_of}
use Rattle.offline_report.proofs.parts.after_parts.Given as goal

abbrev pub invariant-loop-part : goal.invariant-loop-part
invariant-loop-part l = l.left + sum_by size_of (take l.part-index l.parts) ≡ MAX_REPORT
