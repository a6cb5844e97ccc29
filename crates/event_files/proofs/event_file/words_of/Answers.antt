use Rattle.std.proofs.lemmas.Result.{IfOk-from_err}
use Rattle.event_files.proofs.event_file.words_of.Goals as goal

pub returns-in_err-words : goal.returns-in_err-words
returns-in_err-words c = IfOk-from_err c.from_residual.result _ c.from_residual.ensures.0
