use Rattle.commands.proofs.TrueRows.{valid_files}
use Rattle.commands.proofs.laws.valid_files_are_true.Goals as goal

pub returns : goal.returns
returns c = valid_files
