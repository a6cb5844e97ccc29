use Rattle.std.proofs.Common.{count_by, ap, ◌∙◌, arith}
use Rattle.reports.specs.Text.{is_confirmed_row}
use Rattle.reports.proofs.Counting.{counted_more, counted_within, counted_all}
use Rattle.reports.proofs.measure.count_confirmed.Goals as goal

pub overflow_add-count : goal.overflow_add-count
overflow_add-count c =
    omega (
      arith,
      c.requires,
      counted_within (λ task. count_by is_confirmed_row task.items) c.args.tasks.now c.loop-task.task-index c.loop-task.count c.task-item.result c.confirmed_in-count.result
          c.loop-task-test.true c.task-item.is c.loop-task.invariant (c.confirmed_in-count.ensures ∙ ap (count_by is_confirmed_row) c.as_slice.ensures.value),
    )

pub loop-task-preserved : goal.loop-task-preserved
loop-task-preserved c =
    counted_more (λ task. count_by is_confirmed_row task.items) c.args.tasks.now c.loop-task.task-index c.loop-task.count c.task-item.result c.confirmed_in-count.result
    c.loop-task-test.true c.task-item.is c.loop-task.invariant (c.confirmed_in-count.ensures ∙ ap (count_by is_confirmed_row) c.as_slice.ensures.value)

pub returns : goal.returns
returns c = counted_all (λ task. count_by is_confirmed_row task.items) c.args.tasks.now c.loop-task.task-index c.loop-task.count c.loop-task-test.false c.loop-task.invariant
