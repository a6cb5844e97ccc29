use Rattle.std.proofs.Common.{◌++◌, codes, sym, length-append, arith}
use Rattle.reports.specs.Text.{number_list, verdict, row_front}
use Rattle.reports.proofs.Sinks.{adds_both, appends_second, lacks_part, lacks_begun}
use Rattle.reports.proofs.write.write_front.Goals as goal

pub returns-in_err-put : goal.returns-in_err-put
returns-in_err-put g c =
    lacks_begun g.T.Sink.room _ _ (codes "cycle") (row_front c.args.row.now) _ c.from_residual.ensures.0 (omega arith) c.in_err-put.ensures

pub returns-in_err-write_numbers : goal.returns-in_err-write_numbers
returns-in_err-write_numbers g c =
    let row = c.row.inside in
    rw (sym c.row.view_is) (lacks_part g.T.Sink.room _ _ _ (codes "cycle") (number_list row.cycle) (codes "cycle" ++ number_list row.cycle ++ verdict row.dependencies.items row.found) _ c.from_residual-in_err-write_numbers.ensures.0
    (omega (arith, length-append (number_list row.cycle) (verdict row.dependencies.items row.found))) c.in_ok-put.ensures
    (rw c.numbers.ensures.value at c.in_err-write_numbers.ensures))

pub returns : goal.returns
returns g c =
    let row = c.row.inside in
    rw (sym c.row.view_is) (appends_second g.T.Sink.room _ _ _ (codes "cycle" ++ number_list row.cycle) (verdict row.dependencies.items row.found) _
    (adds_both g.T.Sink.room _ _ _ (codes "cycle") (number_list row.cycle) c.in_ok-put.ensures (rw c.numbers.ensures.value at c.in_ok-write_numbers.ensures))
    (rw c.as_slice.ensures.value at c.write_verdict.ensures))
