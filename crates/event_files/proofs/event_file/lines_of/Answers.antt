use Rattle.std.proofs.lemmas.Result.{IfOk-from_err}
use Rattle.event_files.proofs.event_file.lines_of.Goals as goal

pub returns-in_err-pieces_at : goal.returns-in_err-pieces_at
returns-in_err-pieces_at c = IfOk-from_err c.from_residual.result _ c.from_residual.ensures.0
