use Rattle.std.proofs.Common.{sym, subst, IfErr, IfOk}
use Rattle.std.proofs.lemmas.Result.{IfOk-from_err, err_from_is_err_and}
use Rattle.findings.specs.Found.{AskedQuestion}
use Rattle.offline_report.specs.Offline.{IsNotAdmitted, IsOfflineRefusal, IsReport}
use Rattle.offline_report.proofs.WholeReports.{not_admitted}
use Rattle.offline_report.proofs.reporting.offline_with.Goals as goal

pub returns-in_err-open : goal.returns-in_err-open
returns-in_err-open g c =
    let s = c.args.events.items in
    let p = err_from_is_err_and c.from_residual.result c.from_residual.ensures.1 in
    let refused = not_admitted s c.args.bound p.0 (subst (IsNotAdmitted s) (sym p.2) c.in_err-open.ensures.refused) in
    record {
      text = IfOk-from_err c.from_residual.result _ c.from_residual.ensures.0;
      refused = subst (λ r. IfErr r (IsOfflineRefusal s c.args.bound)) (sym p.1) refused;
    }

pub returns : goal.returns
returns g c =
    let written = c.report-2.result in
    let asked = c.in_ok-open.ensures.asked in
    record {
      text = subst (λ (q : AskedQuestion). IfOk written (λ text. IsReport q.events q.bound text.items)) asked c.report-2.ensures.text;
      refused = subst (λ (q : AskedQuestion). IfErr written (IsOfflineRefusal q.events q.bound)) asked c.report-2.ensures.refused;
    }
