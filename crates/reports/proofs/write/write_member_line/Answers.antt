use Rattle.std.proofs.Common.{codes}
use Rattle.reports.specs.Text.{member, member_line}
use Rattle.reports.proofs.Sinks.{appends_second, lacks_begun, length-begin}
use Rattle.reports.proofs.write.write_member_line.Goals as goal

pub returns-in_err-write_member : goal.returns-in_err-write_member
returns-in_err-write_member g c =
    let m = member c.args.dependency.now in
    lacks_begun g.T.Sink.room _ _ m (member_line c.args.dependency.now) _ c.from_residual.ensures.0 (length-begin m (codes "\n")) c.in_err-write_member.ensures

pub returns : goal.returns
returns g c = appends_second g.T.Sink.room _ _ _ (member c.args.dependency.now) (codes "\n") _ c.in_ok-write_member.ensures c.put.ensures
