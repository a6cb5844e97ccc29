use Rattle.std.proofs.Common.{◌≡◌, take, count_by, sum_by}
use Rattle.reports.specs.Text.{is_confirmed_row}
use Rattle.reports.proofs.measure.count_confirmed.Given as goal

abbrev pub invariant-loop-task : goal.invariant-loop-task
invariant-loop-task l = l.count ≡ sum_by (λ task. count_by is_confirmed_row task.items) (take l.task-index l.tasks)
