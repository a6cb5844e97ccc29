use Rattle.std.proofs.Common.{◌++◌, flat_map, sym, ap, ◌∙◌, append_assoc}
use Rattle.reports.specs.Text.{about, counts, row_text}
use Rattle.reports.proofs.Counting.{report_by_tasks}
use Rattle.reports.proofs.report.begin_report.Goals as goal

pub returns-clause-text : goal.returns-clause-text
returns-clause-text c =
    let plan = c.in_ok-plan.ensures.0 in
    let rows = flat_map (λ task. flat_map row_text task.items) c.args.tasks.now in
    ap (λ text. text ++ rows) c.in_ok-first_line.ensures
    ∙ append_assoc (about c.args.question c.args.events c.args.bound) (counts c.in_ok-plan.plan.cycles c.in_ok-plan.plan.confirmed) rows
    ∙ (λ i. about c.args.question c.args.events c.args.bound ++ (counts (plan.1 i) (plan.2 i) ++ rows))
    ∙ sym (report_by_tasks c.args.question c.args.events c.args.bound (λ task. task.items) c.args.tasks.now)
