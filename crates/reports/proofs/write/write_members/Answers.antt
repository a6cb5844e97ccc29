use Rattle.std.proofs.Common.{ap}
use Rattle.reports.specs.Text.{member_line}
use Rattle.reports.proofs.Sinks.{lacks_one}
use Rattle.reports.proofs.write.write_members.Goals as goal

pub returns-in_err-write_member_line : goal.returns-in_err-write_member_line
returns-in_err-write_member_line g c =
    lacks_one g.T.Sink.room _ _ _ member_line c.args.dependencies.now c.loop-dependency.dependency-index c.dependency-item.result _ c.from_residual.result c.from_residual.ensures.0
    c.loop-dependency-test.true (ap member_line c.dependency-item.is) c.loop-dependency.invariant c.in_err-write_member_line.ensures
