use Rattle.std.proofs.Common.{sym}
use Rattle.reports.specs.Text.{row_front, row_text, witness_end}
use Rattle.reports.proofs.Sinks.{appends_second, lacks_begun, length-begin}
use Rattle.reports.proofs.write.write_row.Goals as goal

pub returns-in_err-write_front : goal.returns-in_err-write_front
returns-in_err-write_front g c =
    let row = c.args.row.now in
    lacks_begun g.T.Sink.room _ _ (row_front row) (row_text row) _ c.from_residual.ensures.0
    (length-begin (row_front row) (witness_end row.row.found)) c.in_err-write_front.ensures

pub returns : goal.returns
returns g c =
    let row = c.args.row.now in
    appends_second g.T.Sink.room _ _ _ (row_front row) (witness_end row.row.found) _ c.in_ok-write_front.ensures
    (rw (sym c.row.view_is) c.write_witness.ensures)
