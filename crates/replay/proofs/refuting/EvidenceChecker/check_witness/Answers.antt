use Rattle.std.proofs.Common.{subst}
use Rattle.std.specs.Prelude.{IfOk}
use Rattle.std.proofs.lemmas.Result.{IfOk-from_err}
use Rattle.trace_model.specs.Theory.Lawful.{IsWellFormed}
use Rattle.replay.specs.Verdict.{IsVerdict}
use Rattle.replay.proofs.Verdicts.{exact_verdict}
use Rattle.replay.proofs.LastPlaces.{walked_empty}
use Rattle.replay.proofs.refuting.EvidenceChecker.check_witness.Goals as goal

pub walk-requires-clause-well_formed : goal.walk-requires-clause-well_formed
walk-requires-clause-well_formed c = c.self.invariant.lawful

pub walk-requires-clause-facts : goal.walk-requires-clause-facts
walk-requires-clause-facts c = c.self.invariant.facts_are

pub walk-requires-clause-begins : goal.walk-requires-clause-begins
walk-requires-clause-begins c =
    let e = c.in_ok-walked.ensures in walked_empty c.self.inside.trace.now c.in_ok-walked.walked e.inside e.forks e.writes e.acquires

pub returns-clause-verdict : goal.returns-clause-verdict
returns-clause-verdict c =
    subst (λ s. IfOk c.walk.result (λ v. IsVerdict s c.args.order.now c.args.instance.now v)) c.self.view_is c.walk.ensures

pub returns-clause-exact : goal.returns-clause-exact
returns-clause-exact c =
    exact_verdict c.args.self.now (subst IsWellFormed c.self.view_is c.self.invariant.lawful) c.args.order.now c.args.instance.now c.walk.result (returns-clause-verdict c)

pub returns-in_err-walked-clause-verdict : goal.returns-in_err-walked-clause-verdict
returns-in_err-walked-clause-verdict c = IfOk-from_err c.from_residual.result _ c.from_residual.ensures.0

pub returns-in_err-walked-clause-exact : goal.returns-in_err-walked-clause-exact
returns-in_err-walked-clause-exact c = IfOk-from_err c.from_residual.result _ c.from_residual.ensures.0
