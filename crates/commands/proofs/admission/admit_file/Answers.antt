use Rattle.std.proofs.Common.{subst}
use Rattle.std.proofs.lemmas.Result.{IfOk-from_err}
use Rattle.trace_model.specs.Theory.Trace.{Trace}
use Rattle.wellformed.specs.FirstUnlawful.{IsPassage}
use Rattle.commands.proofs.FirstEvents.{first_of_all, lawful_are_all}
use Rattle.commands.proofs.admission.admit_file.Goals as goal

pub returns-in_err-events-clause-admission : goal.returns-in_err-events-clause-admission
returns-in_err-events-clause-admission c = IfOk-from_err c.from_residual.result _ c.from_residual.ensures.0

pub returns-in_err-first_unlawful-clause-admission : goal.returns-in_err-first_unlawful-clause-admission
returns-in_err-first_unlawful-clause-admission c = IfOk-from_err c.from_residual-in_err-first_unlawful.result _ c.from_residual-in_err-first_unlawful.ensures.0

pub returns-in-None-clause-admission : goal.returns-in-None-clause-admission
returns-in-None-clause-admission c =
    let passed = subst (λ (s : Trace). IsPassage s c.in_ok-first_unlawful.field-0) c.deref.ensures.value c.in_ok-first_unlawful.ensures in
    let lawful = subst (IsPassage c.in_ok-events.events.items) c.in-None.is passed in
    (lawful_are_all c.args.file.now c.in_ok-events.events.items c.in_ok-events.ensures.events lawful, lawful)

pub returns-in-Some-clause-admission : goal.returns-in-Some-clause-admission
returns-in-Some-clause-admission c =
    let passed = subst (λ (s : Trace). IsPassage s c.in_ok-first_unlawful.field-0) c.deref.ensures.value c.in_ok-first_unlawful.ensures in
    first_of_all c.args.file.now c.in_ok-events.events.items c.in-Some.first c.in_ok-events.ensures.events (subst (IsPassage c.in_ok-events.events.items) c.in-Some.is passed)
