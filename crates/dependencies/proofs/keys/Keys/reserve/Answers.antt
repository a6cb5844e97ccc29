use Rattle.std.proofs.lemmas.Result.{IfOk-from_err}
use Rattle.dependencies.proofs.keys.Keys.reserve.Goals as goal

pub returns-in_err-number_next-clause-ok : goal.returns-in_err-number_next-clause-ok
returns-in_err-number_next-clause-ok c = IfOk-from_err c.from_residual.result _ c.from_residual.ensures.0

pub returns-in_err-reserve-clause-ok : goal.returns-in_err-reserve-clause-ok
returns-in_err-reserve-clause-ok c = IfOk-from_err c.from_residual-in_err-reserve.result _ c.from_residual-in_err-reserve.ensures.0

pub returns-in_err-reserve-2-clause-ok : goal.returns-in_err-reserve-2-clause-ok
returns-in_err-reserve-2-clause-ok c = IfOk-from_err c.from_residual-in_err-reserve-2.result _ c.from_residual-in_err-reserve-2.ensures.0
