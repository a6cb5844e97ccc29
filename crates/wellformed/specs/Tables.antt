-- The tables of the admission check and the events that they follow.
use Rattle.std.specs.Prelude.{◌≡◌, ℕ, ◌<◌, ◌≤◌, length, Option, Some, None}
use Rattle.number_map.specs.Positions.{HasNumberAt}
use Rattle.trace_model.specs.declared.traces.event.Event.{Event}
use Rattle.trace_model.specs.declared.traces.event.Op.{Op}
use Rattle.trace_model.specs.declared.traces.event.Op.TheVariants.{Fork, Join, Acquire, Release}
use Rattle.trace_model.specs.declared.limits.TheConstants.{MAX_EVENTS}
use Rattle.trace_model.specs.Theory.Trace.{Trace, occurs}
use Rattle.trace_model.specs.Theory.Held.{held_set}
use Rattle.trace_model.specs.Theory.Holders.{owner}
use Rattle.trace_model.specs.Theory.Lawful.{forks, refusal_of, IsWellFormed}
use Rattle.wellformed.specs.declared.entries.Positions.{Positions}
use Rattle.wellformed.specs.declared.tables.AdmissionTables.{AdmissionTables}
use Rattle.wellformed.specs.Owners.{OwnerTable, owner_in, HasLock}
use Rattle.wellformed.specs.Threads.{ThreadTable, thread_in, HasThread}

-- The tables have the state of each thread, the owner of each lock, and the number of forks of the
-- events.
pub record AreAdmissionTables (events : Trace) (threads : ThreadTable) (owners : OwnerTable)
    (forked : ℕ) : Type 0 where
  pub forked_is : (t : ℕ) → (thread_in threads t).forked ≡ occurs events (Fork t)
  pub joined_is : (t : ℕ) → (thread_in threads t).joined ≡ occurs events (Join t)
  pub held_is : (t : ℕ) → (thread_in threads t).held ≡ length (held_set events (length events) t)
  pub owner_is : (lock : ℕ) → owner_in owners lock ≡ owner events lock
  pub forks_is : forked ≡ forks events

-- The thread that the operation names, if any, has an entry.
abbrev pub HasOpThread : ThreadTable → Op → Type 0
HasOpThread m (Fork c) = HasThread m c
HasOpThread m (Join c) = HasThread m c
HasOpThread m _ = Unit {0}

-- The lock that the operation names, if any, has an entry.
abbrev pub HasOpLock : OwnerTable → Op → Type 0
HasOpLock m (Acquire l) = HasLock m l
HasOpLock m (Release l) = HasLock m l
HasOpLock m _ = Unit {0}

-- The lock that the operation names is at the position, or has no entry if there is no position. An
-- operation that names no lock has no position.
abbrev pub HasOpLockAt : OwnerTable → Op → Option ℕ → Type 0
HasOpLockAt m (Acquire l) position = HasNumberAt m l position
HasOpLockAt m (Release l) position = HasNumberAt m l position
HasOpLockAt m _ position = position ≡ None

-- Each thread and lock that the event names has an entry.
pub record HasEntries (threads : ThreadTable) (owners : OwnerTable) (e : Event) : Type 0 where
  pub own : HasThread threads e.thread
  pub other : HasOpThread threads e.op
  pub lock : HasOpLock owners e.op

-- Memory is reserved for the event.
abbrev pub HasAdmissionRoom : AdmissionTables → Event → Type 0
HasAdmissionRoom tables e = HasEntries tables.threads tables.owners e

-- The positions are those of the event's thread and of its lock.
pub record ArePositions (tables : AdmissionTables) (e : Event) (positions : Positions)
    : Type 0 where
  pub thread : HasNumberAt tables.threads e.thread (Some positions.thread)
  pub lock : HasOpLockAt tables.owners e.op positions.lock

-- The events are well formed, and the tables are those of the events.
pub record FollowEvents (tables : AdmissionTables) (events : Trace) : Type 0 where
  pub counted : tables.count ≡ length events
  pub well_formed : IsWellFormed events
  pub shown : AreAdmissionTables events tables.threads tables.owners tables.forks

-- The tables are those of some events after which event e is lawful.
abbrev pub IsLawfulForGate : AdmissionTables → Event → Type 0
IsLawfulForGate tables e = (s : Trace) × FollowEvents tables s × (refusal_of MAX_EVENTS s e ≡ None)

-- The invariant of a gate. `list` is the length and the capacity of its list of events.
pub record IsRightGate (limit : ℕ) (events : Trace) (reserved : Option Event) (list : ℕ × ℕ)
    (tables : AdmissionTables) : Type 0 where
  pub within : length events ≤ limit
  pub small : limit ≤ MAX_EVENTS
  pub follow : FollowEvents tables events
  pub entries : (e : Event) → reserved ≡ Some e → HasAdmissionRoom tables e
  pub room : (e : Event) → reserved ≡ Some e → list.0 < list.1
