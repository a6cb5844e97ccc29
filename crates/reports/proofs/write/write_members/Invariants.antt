use Rattle.std.proofs.Common.{take, flat_map}
use Rattle.reports.specs.Text.{member_line}
use Rattle.reports.specs.Sinks.{AppendsText}
use Rattle.reports.proofs.write.write_members.Given as goal

abbrev pub invariant-loop-dependency : goal.invariant-loop-dependency
invariant-loop-dependency g l = AppendsText g.T.Sink.room l.initial.text (flat_map member_line (take l.dependency-index l.dependencies)) l.text
