use Rattle.std.proofs.lemmas.Result.{IfOk-from_err}
use Rattle.replay.proofs.sections.put.Goals as goal

pub returns-in_err-insert-in-Some : goal.returns-in_err-insert-in-Some
returns-in_err-insert-in-Some c = IfOk-from_err c.from_residual.result _ c.from_residual.ensures.0
