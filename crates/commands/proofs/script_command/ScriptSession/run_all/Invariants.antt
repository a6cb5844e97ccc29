use Rattle.std.proofs.Common.{take}
use Rattle.commands.specs.ScriptTells.{PrintsAll}
use Rattle.commands.specs.Output.{Writes}
use Rattle.commands.proofs.script_command.ScriptSession.run_all.Given as goal

abbrev pub invariant-loop-command : goal.invariant-loop-command
invariant-loop-command g l =
    Writes (g.O.Write.contents l.initial.out) (g.O.Write.contents l.out) (PrintsAll l.initial.self.book.state (take l.command-index l.commands) l.self.book.state)
