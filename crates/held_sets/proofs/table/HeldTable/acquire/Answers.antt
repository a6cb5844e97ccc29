use Rattle.std.proofs.lemmas.Result.{IfOk-from_err}
use Rattle.held_sets.proofs.table.HeldTable.acquire.Goals as goal

pub returns-in_err-reserve-clause-ok : goal.returns-in_err-reserve-clause-ok
returns-in_err-reserve-clause-ok c = IfOk-from_err c.from_residual.result _ c.from_residual.ensures.0
