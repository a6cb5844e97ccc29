use Rattle.std.proofs.Common.{◌++◌, sym, ap, subst, ◌∙◌, IfErr}
use Rattle.std.proofs.lemmas.Result.{IfOk-from_err, err_from_is_err_and}
use Rattle.trace_model.specs.Theory.Trace.{Trace}
use Rattle.offline_report.specs.Offline.{IsOfflineRefusal, rows_by_task, tasks_rows_text}
use Rattle.offline_report.proofs.WholeReports.{text_is}
use Rattle.offline_report.proofs.opening.Offline.report.Goals as goal

pub returns-in_err-found : goal.returns-in_err-found
returns-in_err-found g c =
    let q = c.args.self.now in
    let p = err_from_is_err_and c.from_residual.result c.from_residual.ensures.1 in
    record {
      text = IfOk-from_err c.from_residual.result _ c.from_residual.ensures.0;
      refused = subst (λ r. IfErr r (IsOfflineRefusal q.events q.bound)) (sym p.1) (subst (IsOfflineRefusal q.events q.bound) (sym p.2) c.in_err-found.ensures.refused);
    }

pub returns-in-Ok : goal.returns-in-Ok
returns-in-Ok g c =
    let q = c.args.self.now in
    let found = c.in_ok-found.found in
    let are = c.in_ok-found.ensures.rows in
    let text = c.in-Ok.ensures ∙ ap (λ (s : Trace). found.first_line.items ++ tasks_rows_text s found.tasks.items) c.snapshot.ensures
    ∙ text_is q.events q.bound found.tasks.items found.first_line.items are.first_line in
    record { text = (are.well_formed, (rows_by_task found.tasks.items, are.tasks, text)); refused = tt }
