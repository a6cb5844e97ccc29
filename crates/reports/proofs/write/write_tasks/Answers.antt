use Rattle.std.proofs.Common.{flat_map, ap, ◌∙◌}
use Rattle.reports.specs.Text.{row_text}
use Rattle.reports.proofs.Sinks.{lacks_one}
use Rattle.reports.proofs.write.write_tasks.Goals as goal

pub returns-in_err-write_rows : goal.returns-in_err-write_rows
returns-in_err-write_rows g c =
    lacks_one g.T.Sink.room _ _ _ (λ task. flat_map row_text task.items) c.args.tasks.now c.loop-task.task-index c.task-item.result _ c.from_residual.result c.from_residual.ensures.0
    c.loop-task-test.true (ap (flat_map row_text) c.as_slice.ensures.value ∙ ap (λ task. flat_map row_text task.items) c.task-item.is) c.loop-task.invariant c.in_err-write_rows.ensures
