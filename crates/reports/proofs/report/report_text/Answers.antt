use Rattle.std.proofs.Common.{◌++◌, flat_map, sym, ap, ◌∙◌, append_assoc}
use Rattle.reports.specs.Text.{about, counts, row_text}
use Rattle.reports.proofs.Counting.{report_by_tasks}
use Rattle.reports.proofs.report.report_text.Goals as goal

pub returns-clause-text : goal.returns-clause-text
returns-clause-text c =
    let plan = c.in_ok-plan.ensures.0 in
    c.finish.ensures ∙ c.in_ok-write_tasks.ensures _ (c.in_ok-write_counts.ensures _ (c.in_ok-write_about.ensures _ c.in_ok-buffer.ensures))
    ∙ append_assoc (about c.args.question c.args.events c.get-most.result) (counts c.in_ok-plan.plan.cycles c.in_ok-plan.plan.confirmed) (flat_map (λ task. flat_map row_text task.items) c.args.tasks.now)
    ∙ ap (λ b. about c.args.question c.args.events b ++ (counts c.in_ok-plan.plan.cycles c.in_ok-plan.plan.confirmed ++ flat_map (λ task. flat_map row_text task.items) c.args.tasks.now)) c.get-most.ensures.value
    ∙ (λ i. about c.args.question c.args.events c.args.bound ++ (counts (plan.1 i) (plan.2 i) ++ flat_map (λ task. flat_map row_text task.items) c.args.tasks.now))
    ∙ sym (report_by_tasks c.args.question c.args.events c.args.bound (λ task. task.items) c.args.tasks.now)
