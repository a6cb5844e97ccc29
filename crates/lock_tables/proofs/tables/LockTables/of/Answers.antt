use Rattle.std.proofs.Common.{[]}
use Rattle.lock_tables.proofs.tables.LockTables.of.Goals as goal

pub returns : goal.returns
returns c = c.in_ok-extend.ensures [] c.new-tables.ensures
