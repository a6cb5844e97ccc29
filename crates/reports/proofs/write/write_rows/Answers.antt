use Rattle.std.proofs.Common.{ap}
use Rattle.reports.specs.Text.{row_text}
use Rattle.reports.proofs.Sinks.{lacks_one}
use Rattle.reports.proofs.write.write_rows.Goals as goal

pub returns-in_err-write_row : goal.returns-in_err-write_row
returns-in_err-write_row g c =
    lacks_one g.T.Sink.room _ _ _ row_text c.args.rows.now c.loop-row.row-index c.row-item.result _ c.from_residual.result c.from_residual.ensures.0
    c.loop-row-test.true (ap row_text c.row-item.is) c.loop-row.invariant c.in_err-write_row.ensures
