-- The depths of locks, as an index stores them.
use Rattle.std.specs.Prelude.{◌≡◌, ℕ, suc, ◌-◌, ◌<◌, ◌≤◌, nat_eq, List, length, take, slice_get, Option, Some, None, IsSome, unwrap_or, if◌then◌else◌}
use Rattle.std.specs.Map.{lookup}
use Rattle.number_map.specs.Positions.{HasNumberAt}
use Rattle.trace_model.specs.declared.traces.event.Event.{Event}
use Rattle.trace_model.specs.declared.traces.event.Op.{Op}
use Rattle.trace_model.specs.declared.traces.event.Op.TheVariants.{Acquire, Release}
use Rattle.trace_model.specs.declared.limits.TheConstants.{MAX_DEPTH}
use Rattle.trace_model.specs.Theory.Trace.{Trace}
use Rattle.trace_model.specs.Theory.Held.{depth}
use Rattle.trace_model.specs.Theory.Holders.{owner, owner_depth}
use Rattle.trace_index.specs.declared.row.IndexRow.{IndexRow}
use Rattle.trace_index.specs.declared.row.Ready.{Ready}
use Rattle.trace_index.specs.Links.{trace_of}

-- The depth of each lock that has an entry.
abbrev pub DepthTable : Type 0
DepthTable = List (ℕ × ℕ)

-- The depth of the lock in the table. A lock without an entry is not held.
abbrev pub lock_depth : DepthTable → ℕ → ℕ
lock_depth table l = unwrap_or (lookup (nat_eq l) table) 0

-- The lock has an entry.
abbrev pub HasDepthEntry : DepthTable → ℕ → Type 0
HasDepthEntry table l = IsSome (lookup (nat_eq l) table)

-- The lock that the operation names, if any, has an entry.
abbrev pub HasOpEntry : DepthTable → Op → Type 0
HasOpEntry table (Acquire l) = HasDepthEntry table l
HasOpEntry table (Release l) = HasDepthEntry table l
HasOpEntry table _ = Unit {0}

-- The lock that the operation names is at the position, or has no entry if there is no position. An
-- operation that names no lock has no position.
abbrev pub HasOpEntryAt : DepthTable → Op → Option ℕ → Type 0
HasOpEntryAt table (Acquire l) position = HasNumberAt table l position
HasOpEntryAt table (Release l) position = HasNumberAt table l position
HasOpEntryAt table _ position = position ≡ None

-- The depth of the lock that the operation names, 0 if it names none.
abbrev pub op_depth : (ℕ → ℕ) → Op → ℕ
op_depth depths (Acquire l) = depths l
op_depth depths (Release l) = depths l
op_depth depths _ = 0

-- The depth of the lock of event e for its thread right before place p.
abbrev pub event_depth : Trace → ℕ → Event → ℕ
event_depth s p e = op_depth (depth s p e.thread) e.op

-- An acquire of a lock at this depth is below MAX_DEPTH.
abbrev pub IsShallow : Op → ℕ → Type 0
IsShallow (Acquire l) d = d < MAX_DEPTH
IsShallow _ d = Unit {0}

-- The depth of lock l after operation o on a lock at depth d, if it was n before.
abbrev pub depth_noted : Op → ℕ → ℕ → ℕ → ℕ
depth_noted (Acquire m) d l n = if nat_eq m l then suc d else n
depth_noted (Release m) d l n = if nat_eq m l then d - 1 else n
depth_noted _ d l n = n

-- Each row has the depth of its event.
abbrev pub AreDeep : List IndexRow → Type 0
AreDeep rows = (p : ℕ) (row : IndexRow) → slice_get rows p ≡ Some row →
    row.depth ≡ event_depth (trace_of rows) p row.event

-- The table has the depths after the first n events.
abbrev pub AreDepths : Trace → ℕ → DepthTable → Type 0
AreDepths s n table = (l : ℕ) → lock_depth table l ≡ owner_depth (owner (take n s) l)

-- The table has the depths after the first `noted` rows, and the reserved row has the depth of its
-- event and the position of its lock.
pub record IsDeep (rows : List IndexRow) (table : DepthTable) (noted : ℕ)
    (next : Option Ready) : Type 0 where
  pub depths_are : AreDepths (trace_of rows) noted table
  pub within : noted ≤ length rows
  pub all : (r : Ready) → next ≡ Some r → noted ≡ length rows
  pub entry : (r : Ready) → next ≡ Some r → HasOpEntry table r.row.event.op
  pub position : (r : Ready) → next ≡ Some r → HasOpEntryAt table r.row.event.op r.lock
  pub ready : (r : Ready) → next ≡ Some r →
      r.row.depth ≡ op_depth (λ l. owner_depth (owner (trace_of rows) l)) r.row.event.op
