use Rattle.std.proofs.lemmas.Result.{IfOk-from_err}
use Rattle.replay.proofs.Verdicts.{exact_verdict}
use Rattle.replay.proofs.LastPlaces.{walked_empty}
use Rattle.replay.proofs.checking.check.Goals as goal

pub walk-requires-clause-begins : goal.walk-requires-clause-begins
walk-requires-clause-begins c =
    let e = c.in_ok-walked.ensures in walked_empty c.args.trace.now c.in_ok-walked.walked e.inside e.forks e.writes e.acquires

pub returns-clause-exact : goal.returns-clause-exact
returns-clause-exact c =
    exact_verdict c.args.trace.now c.requires c.args.order.now c.args.instance.now c.walk.result c.walk.ensures

pub returns-in_err-facts-clause-verdict : goal.returns-in_err-facts-clause-verdict
returns-in_err-facts-clause-verdict c = IfOk-from_err c.from_residual.result _ c.from_residual.ensures.0

pub returns-in_err-facts-clause-exact : goal.returns-in_err-facts-clause-exact
returns-in_err-facts-clause-exact c = IfOk-from_err c.from_residual.result _ c.from_residual.ensures.0

pub returns-in_err-walked-clause-verdict : goal.returns-in_err-walked-clause-verdict
returns-in_err-walked-clause-verdict c = IfOk-from_err c.from_residual-in_err-walked.result _ c.from_residual-in_err-walked.ensures.0

pub returns-in_err-walked-clause-exact : goal.returns-in_err-walked-clause-exact
returns-in_err-walked-clause-exact c = IfOk-from_err c.from_residual-in_err-walked.result _ c.from_residual-in_err-walked.ensures.0
