use Rattle.std.proofs.Common.{[], arith}
use Rattle.std.proofs.lemmas.Result.{err_from_is_err_and}
use Rattle.reports.specs.Text.{is_confirmed_row}
use Rattle.reports.proofs.Counting.{rows_within, confirmed_within, over_rows, over_about, over_counts, planned}
use Rattle.reports.proofs.report.plan_of.Goals as goal

pub returns-in_err-write_tasks : goal.returns-in_err-write_tasks
returns-in_err-write_tasks c =
    rw (err_from_is_err_and c.from_residual.result c.from_residual.ensures.1).1
    (over_rows c.args.question c.args.events c.args.bound (λ task. task.items) c.args.tasks.now _ (c.in_err-write_tasks.ensures [] c.new-counter.ensures))

pub returns-in_err-write_about : goal.returns-in_err-write_about
returns-in_err-write_about c =
    rw (err_from_is_err_and c.from_residual-in_err-write_about.result c.from_residual-in_err-write_about.ensures.1).1
    (over_about c.args.question c.args.events c.args.bound (λ task. task.items) c.args.tasks.now _
    (c.in_err-write_about.ensures _ (c.in_ok-write_tasks.ensures [] c.new-counter.ensures)))

pub count_rows-cycles-requires : goal.count_rows-cycles-requires
count_rows-cycles-requires c = omega (arith, rows_within (λ task. task.items) c.args.tasks.now, c.in_ok-write_tasks.ensures [] c.new-counter.ensures)

pub count_confirmed-confirmed-requires : goal.count_confirmed-confirmed-requires
count_confirmed-confirmed-requires c = omega (arith, confirmed_within is_confirmed_row (λ task. task.items) c.args.tasks.now, c.in_ok-write_tasks.ensures [] c.new-counter.ensures)

pub returns-in_err-write_counts : goal.returns-in_err-write_counts
returns-in_err-write_counts c =
    rw (err_from_is_err_and c.from_residual-in_err-write_counts.result c.from_residual-in_err-write_counts.ensures.1).1
    (over_counts c.args.question c.args.events c.args.bound (λ task. task.items) c.args.tasks.now _ _ _ c.count_rows-cycles.ensures c.count_confirmed-confirmed.ensures
    (c.in_err-write_counts.ensures _ (c.in_ok-write_about.ensures _ (c.in_ok-write_tasks.ensures [] c.new-counter.ensures))))

pub returns : goal.returns
returns c =
    planned c.args.question c.args.events c.args.bound (λ task. task.items) c.args.tasks.now _ _ _ _ c.count_rows-cycles.ensures c.count_confirmed-confirmed.ensures
    (c.in_ok-write_counts.ensures _ (c.in_ok-write_about.ensures _ (c.in_ok-write_tasks.ensures [] c.new-counter.ensures)))
