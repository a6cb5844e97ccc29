use Rattle.std.proofs.lemmas.Result.{IfOk-from_err}
use Rattle.dependencies.proofs.table.DepTable.share.Goals as goal

pub returns-in_err-entries : goal.returns-in_err-entries
returns-in_err-entries c = IfOk-from_err c.from_residual.result _ c.from_residual.ensures.0
