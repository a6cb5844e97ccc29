use Rattle.std.proofs.Common.{◌++◌, take}
use Rattle.trace_model.specs.Theory.Trace.{Trace}
use Rattle.wellformed.specs.Tables.{FollowEvents}
use Rattle.wellformed.proofs.tables.AdmissionTables.admit_all.Given as goal

-- the tables are those of the old events and the new ones so far
abbrev pub invariant-loop-event : goal.invariant-loop-event
invariant-loop-event l =
    (s : Trace) → FollowEvents l.fn.self s → FollowEvents l.self (s ++ take l.event-index l.events)
