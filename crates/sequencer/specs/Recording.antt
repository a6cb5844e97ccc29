-- The invariant of a recorder (this project's profile).
use Rattle.std.specs.Prelude.{◌≡◌, ℕ, ◌≤◌, length, Option, Some}
use Rattle.trace_model.specs.declared.traces.event.Event.{Event}
use Rattle.trace_model.specs.declared.limits.TheConstants.{MAX_EVENTS}
use Rattle.wellformed.specs.Tables as wellformed
use Rattle.wellformed.specs.declared.tables.AdmissionTables.{AdmissionTables}
use Rattle.trace_index.specs.Room.{IndexView}
use Rattle.lock_tables.specs.Tables.{FollowTrace, HasLockTableRoom}
use Rattle.lock_tables.specs.declared.tables.LockTables.{LockTables}

-- memory is reserved for the event in gate, index and tables
pub record HaveEventRoom (admission : AdmissionTables) (index : IndexView) (tables : LockTables)
    (e : Event) : Type 0 where
  pub in_admission : wellformed.HasAdmissionRoom admission e
  pub in_index : index.reserved ≡ Some e
  pub in_tables : HasLockTableRoom tables e

-- Gate and tables agree with the events in the index. Memory is reserved for the event that is
-- ready.
pub record IsRecording (limit : ℕ) (admission : AdmissionTables) (index : IndexView)
    (tables : LockTables)
    (ready : Option Event) : Type 0 where
  pub small : limit ≤ MAX_EVENTS
  pub within : length index.events ≤ limit
  pub admission_is : wellformed.FollowEvents admission index.events
  pub tables_are : FollowTrace tables index.events
  pub room : (e : Event) → ready ≡ Some e → HaveEventRoom admission index tables e
