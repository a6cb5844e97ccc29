use Rattle.std.proofs.Common.{sym, subst}
use Rattle.std.specs.List.{All}
use Rattle.event_files.specs.EventFile.{pieces_at}
use Rattle.commands.specs.ScriptFile.{FitsCommand}
use Rattle.commands.proofs.ScriptPrints.{lines_fit}
use Rattle.commands.proofs.script_command.run_file.Goals as goal

pub run_commands-requires-clause-fit : goal.run_commands-requires-clause-fit
run_commands-requires-clause-fit g c =
    subst (All FitsCommand) (sym c.deref.ensures.value) (lines_fit (pieces_at 10 c.args.file.now) c.in_ok-commands.commands.items c.in_ok-commands.ensures.commands)
