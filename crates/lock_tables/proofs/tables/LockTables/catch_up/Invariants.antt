use Rattle.std.proofs.Common.{◌-◌, length}
use Rattle.trace_model.specs.Theory.Trace.{Trace}
use Rattle.dependencies.specs.Tables.{table_dependencies}
use Rattle.lock_tables.specs.Tables.{FollowTrace}
use Rattle.lock_tables.proofs.tables.LockTables.catch_up.Given as goal

abbrev pub invariant-loop-self : goal.invariant-loop-self
invariant-loop-self l = (s : Trace) → FollowTrace l.fn.self s → FollowTrace l.self s

abbrev pub decreases-loop-self : goal.decreases-loop-self
decreases-loop-self l = length (table_dependencies l.self.dependencies) - l.self.graphed
