use Rattle.std.proofs.Common.{◌≤◌, length, flat_map, sym, subst}
use Rattle.trace_model.specs.declared.limits.TheConstants.{MAX_REPORT}
use Rattle.reports.specs.Text.{row_text}
use Rattle.reports.proofs.Rests.{task_within}
use Rattle.reports.proofs.row_cursor.RowCursor.next.Goals as goal

pub put_next-requires-clause-few : goal.put_next-requires-clause-few
put_next-requires-clause-few c =
    subst (λ rows. length (flat_map row_text rows) ≤ MAX_REPORT) (sym c.as_slice-rows.ensures.value)
    (task_within c.args.tasks.now c.loop-self.self.task c.index-tasks-self.result MAX_REPORT c.loop-self-test.true c.index-tasks-self.is c.requires)
