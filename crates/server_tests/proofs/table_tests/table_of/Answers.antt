use Rattle.server_tests.proofs.table_tests.table_of.Goals as goal

pub returns : goal.returns
returns c = (c.in_ok-dependencies.ensures c.args.events.now c.in_ok-tables.ensures).dependencies
