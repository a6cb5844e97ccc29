-- Lock tables that follow a trace.
use Rattle.std.specs.Prelude.{◌≡◌, ℕ, ◌≤◌, ◌++◌, List, [], length, take, true, Option, Some, None}
use Rattle.std.specs.declared.sync.Arc.{Arc}
use Rattle.std.specs.declared.alloc.Global.{Global}
use Rattle.lock_graph.specs.declared.graph.LockGraph.{LockGraph}
use Rattle.std.specs.Arc.{arc_value}
use Rattle.trace_model.specs.declared.traces.event.Event.{Event}
use Rattle.trace_model.specs.declared.traces.event.Op.TheVariants.{Acquire}
use Rattle.trace_model.specs.declared.limits.TheConstants.{MAX_EVENTS}
use Rattle.trace_model.specs.Theory.Trace.{Trace}
use Rattle.trace_model.specs.Theory.Lawful.{refusal_of, IsWellFormed}
use Rattle.trace_model.specs.Theory.Dependencies.{Dependency, dependencies_below}
use Rattle.held_sets.specs.Tables as Held
use Rattle.dependencies.specs.Tables as Dependencies
use Rattle.dependencies.specs.Tables.{table_dependencies, next_of}
use Rattle.lock_graph.specs.Graph.{IsGraphOf, HasGraphOf, holders}
use Rattle.lock_tables.specs.declared.parts.LockParts.{LockParts}
use Rattle.lock_tables.specs.declared.tables.LockTables.{LockTables}

-- The numbers that an optional shared graph has for the lock.
abbrev pub shared_holders : Option (Arc LockGraph Global) → ℕ → List ℕ
shared_holders None lock = []
shared_holders (Some graph) lock = holders (arc_value graph) lock

-- The tables are those of the trace. The graph has a prefix of the dependencies.
pub record FollowTrace (tables : LockTables) (s : Trace) : Type 0 where
  pub counted : tables.events ≡ length s
  pub held : Held.HasHeldSetsOf tables.held s (length s)
  pub dependencies : Dependencies.HasDependenciesOf tables.dependencies s (length s)
  pub graphed : tables.graphed ≤ length (table_dependencies tables.dependencies)
  pub graph : IsGraphOf (take tables.graphed (table_dependencies tables.dependencies))
      (shared_holders tables.graph)

-- If the event is an acquire, then its thread has an entry.
abbrev pub HasEntryFor : Held.HoldingTable → Event → Type 0
HasEntryFor held e = (lock : ℕ) → e.op ≡ Acquire lock → Held.HasThreadEntry held e.thread

-- If the event has a dependency, then memory is reserved for its place.
abbrev pub HasPlaceFor : Dependencies.DependencyTable → Held.HoldingTable → Event → Type 0
HasPlaceFor table held e = (d : Dependency) → next_of held e ≡ Some d → table.room ≡ true

-- Memory is reserved for the event.
pub record HasLockTableRoom (tables : LockTables) (e : Event) : Type 0 where
  pub entry : HasEntryFor tables.held e
  pub place : HasPlaceFor tables.dependencies tables.held e

-- The tables are those of some trace after which the event is lawful.
abbrev pub IsLawfulForTables : LockTables → Event → Type 0
IsLawfulForTables tables e = (s : Trace) × FollowTrace tables s × (refusal_of MAX_EVENTS s e ≡ None)

-- The tables are those of some trace after which the events are lawful one after the other.
abbrev pub AreLawfulForTables : LockTables → Trace → Type 0
AreLawfulForTables tables events =
    (s : Trace) × FollowTrace tables s × IsWellFormed (s ++ events)

-- The first n events of the trace have `total` dependencies.
pub record CountsBelow (s : Trace) (total n : ℕ) : Type 0 where
  pub within : n ≤ length s
  pub counted : total ≡ length (dependencies_below s n)

-- The tables are those of some trace whose first n events have `total` dependencies.
abbrev pub HasTotal : LockTables → ℕ → ℕ → Type 0
HasTotal tables total n = (s : Trace) × FollowTrace tables s × CountsBelow s total n

-- The dependencies are those of the trace, and the graph contains their graph.
pub record AreLockPartsOf (parts : LockParts) (s : Trace) : Type 0 where
  pub dependencies : Dependencies.HasDependenciesOf parts.dependencies s (length s)
  pub graph : HasGraphOf (table_dependencies parts.dependencies) (arc_value parts.graph)
