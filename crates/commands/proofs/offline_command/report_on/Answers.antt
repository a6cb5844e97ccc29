use Rattle.std.proofs.Common.{◌++◌, ◌∙◌, ap}
use Rattle.trace_model.specs.Theory.Trace.{Trace}
use Rattle.offline_report.specs.Offline.{rows_by_task, tasks_rows_text}
use Rattle.offline_report.proofs.WholeReports.{text_is}
use Rattle.commands.specs.Offline.{ReportPrints}
use Rattle.commands.specs.Output.{IsJust}
use Rattle.commands.specs.declared.exit.Status.TheVariants.{Done}
use Rattle.commands.proofs.Outputs.{ends_as_weaker, just_is}
use Rattle.commands.proofs.offline_command.report_on.Goals as goal

pub returns-in-Ok : goal.returns-in-Ok
returns-in-Ok g c =
    let s = c.args.offline.now.events in
    let bound = c.args.offline.now.bound in
    let found = c.in-Ok.found in
    let are = c.in-Ok.ensures.rows in
    let text = found.first_line.items ++ tasks_rows_text c.snapshot.result.now found.tasks.items in
    let same = ap (λ (e : Trace). found.first_line.items ++ tasks_rows_text e found.tasks.items) c.snapshot.ensures ∙ text_is s bound found.tasks.items found.first_line.items are.first_line in
    let right : ReportPrints s bound Done text = (are.well_formed, (rows_by_task found.tasks.items, are.tasks, same)) in
    ends_as_weaker (IsJust Done text) (ReportPrints s bound) _ _ c.write_report.result (g.O.Write.contents c.args.out.now) (g.O.Write.contents c.write_report.new.out)
    (just_is (ReportPrints s bound) Done text right) (λ none. none) c.write_report.ensures
