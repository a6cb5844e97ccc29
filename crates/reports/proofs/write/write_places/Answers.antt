use Rattle.std.proofs.Common.{◌-◌}
use Rattle.trace_model.specs.Theory.Closure.{ascending_places}
use Rattle.fronts.specs.State.{included_set, included_places}
use Rattle.reports.specs.Text.{number_list, run_text}
use Rattle.reports.proofs.Runs.{spaced_within}
use Rattle.reports.proofs.Sinks.{lacks_part}
use Rattle.reports.proofs.write.write_places.Goals as goal

pub returns-in_err-put_run : goal.returns-in_err-put_run
returns-in_err-put_run g c =
    let f = c.args.fronts.now in
    let range = c.in-Some.range in
    let next = rw c.in-Some.is at c.range_from.ensures in
    lacks_part g.T.Sink.room _ _ _ (number_list (ascending_places (included_set f) c.loop-range.at)) (run_text range.start (range.end - range.start)) (number_list (included_places f))
    c.from_residual.result c.from_residual.ensures.0 (spaced_within f c.loop-range.at range.start range.end next) c.loop-range.invariant c.in_err-put_run.ensures
