use Rattle.std.proofs.Common.{◌++◌, take}
use Rattle.trace_model.specs.Theory.Trace.{Trace}
use Rattle.lock_tables.specs.Tables.{FollowTrace}
use Rattle.lock_tables.proofs.tables.LockTables.extend.Given as goal

-- the tables are those of the old events and the new ones so far
abbrev pub invariant-loop-event : goal.invariant-loop-event
invariant-loop-event l =
    (s : Trace) → FollowTrace l.fn.self s → FollowTrace l.self (s ++ take l.event-index l.events)
