use Rattle.std.proofs.Common.{sym, subst, IfErr}
use Rattle.std.proofs.lemmas.Result.{IfOk-from_err, err_from_is_err_and}
use Rattle.trace_model.specs.Theory.Trace.{Trace}
use Rattle.trace_model.specs.Theory.Lawful.{IsWellFormed}
use Rattle.offline_report.specs.Offline.{IsNotAdmitted}
use Rattle.offline_report.proofs.opening.Offline.open.Goals as goal

pub returns-in_err-admit : goal.returns-in_err-admit
returns-in_err-admit g c =
    let written = c.from_residual.result in
    let p = err_from_is_err_and written c.from_residual.ensures.1 in
    let refused = subst (IsNotAdmitted c.deref.result.now) (sym p.2) c.in_err-admit.ensures.refused in
    record {
      asked = IfOk-from_err written _ c.from_residual.ensures.0;
      well_formed = IfOk-from_err written _ c.from_residual.ensures.0;
      refused = subst (λ r. IfErr r (IsNotAdmitted c.args.events.items)) (sym p.1) (subst (λ (s : Trace). IsNotAdmitted s p.0) c.deref.ensures.value refused);
    }

pub returns-in_default : goal.returns-in_default
returns-in_default g c = record { asked = tt; well_formed = tt; refused = tt }

pub returns : goal.returns
returns g c =
    record {
      asked = λ i. record { question = 0; bound = c.in-Ok.ensures.1 i; events = c.in-Ok.ensures.0 i };
      well_formed = subst IsWellFormed c.deref.ensures.value c.in_ok-admit.ensures.ok;
      refused = tt;
    }
