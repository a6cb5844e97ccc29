use Rattle.commands.proofs.check_command.dependencies_of.Goals as goal

pub returns : goal.returns
returns c = (c.in_ok-dependencies.ensures c.args.events.now c.in_ok-of.ensures).dependencies
