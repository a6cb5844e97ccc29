use Rattle.std.proofs.Common.{◌≡◌, length, take, sum_by}
use Rattle.reports.proofs.measure.count_rows.Given as goal

abbrev pub invariant-loop-task : goal.invariant-loop-task
invariant-loop-task l = l.count ≡ sum_by (λ task. length task.items) (take l.task-index l.tasks)
