use Rattle.std.proofs.Common.{sym, ap}
use Rattle.commands.specs.Replay.{verdict_status}
use Rattle.commands.proofs.replay_command.status_of.Goals as goal

pub returns-in-Reaches : goal.returns-in-Reaches
returns-in-Reaches c = ap verdict_status (sym c.in-Reaches.is)

pub returns-in-Fails : goal.returns-in-Fails
returns-in-Fails c = ap verdict_status (sym c.in-Fails.is)
