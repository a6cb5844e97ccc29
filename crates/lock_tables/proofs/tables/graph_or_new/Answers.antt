use Rattle.std.proofs.lemmas.Result.{IfOk-from_err}
use Rattle.lock_tables.proofs.tables.graph_or_new.Goals as goal

pub returns-in_err-new-in-None : goal.returns-in_err-new-in-None
returns-in_err-new-in-None c = IfOk-from_err c.from_residual.result _ c.from_residual.ensures.0
