use Rattle.std.proofs.lemmas.Result.{IfOk-weaker}
use Rattle.command_line.proofs.Plain.{third_is_false}
use Rattle.command_line.proofs.add_command.Goals as goal

pub returns : goal.returns
returns c = IfOk-weaker c.subcommand.result _ _ (λ new adds. adds.shape (third_is_false _ _ _ _ c.requires)) c.subcommand.ensures
