use Rattle.std.proofs.Common.{◌≡◌, length, arith}
use Rattle.reports.proofs.Counting.{counted_more, counted_within, counted_all}
use Rattle.reports.proofs.measure.count_rows.Goals as goal

long : (c : goal.After-len-count) → c.len-count.result ≡ length c.task-item.result.items
long c = omega (arith, c.len-count.ensures, c.task-item.result.ok.0)

pub overflow_add-count : goal.overflow_add-count
overflow_add-count c =
    omega (arith, c.requires, counted_within (λ task. length task.items) c.args.tasks.now c.loop-task.task-index c.loop-task.count c.task-item.result c.len-count.result c.loop-task-test.true c.task-item.is c.loop-task.invariant (long c))

pub loop-task-preserved : goal.loop-task-preserved
loop-task-preserved c =
    counted_more (λ task. length task.items) c.args.tasks.now c.loop-task.task-index c.loop-task.count c.task-item.result c.len-count.result c.loop-task-test.true c.task-item.is c.loop-task.invariant (long c)

pub returns : goal.returns
returns c = counted_all (λ task. length task.items) c.args.tasks.now c.loop-task.task-index c.loop-task.count c.loop-task-test.false c.loop-task.invariant
