-- The invariant of a recorder is preserved while it reserves memory.
use Rattle.std.proofs.Common.{◌≡◌, ℕ, ◌≤◌, [], length, Option, Some, None, sym, subst, arith}
use Rattle.std.proofs.lemmas.Option.{none-some, same_Some}
use Rattle.trace_model.specs.declared.traces.event.Event.{Event}
use Rattle.trace_model.specs.declared.limits.TheConstants.{MAX_EVENTS}
use Rattle.trace_model.specs.Theory.Trace.{Trace}
use Rattle.wellformed.specs.Tables.{FollowEvents}
use Rattle.wellformed.specs.declared.tables.AdmissionTables.{AdmissionTables}
use Rattle.trace_index.specs.Room.{IndexView}
use Rattle.lock_tables.specs.Tables.{FollowTrace}
use Rattle.lock_tables.specs.declared.tables.LockTables.{LockTables}
use Rattle.sequencer.specs.Recording.{HaveEventRoom, IsRecording}

-- nothing is recorded
pub recorded_none : (limit : ℕ) (admission : AdmissionTables) (index : IndexView) (tables : LockTables) → limit ≤ MAX_EVENTS → index.events ≡ [] → FollowEvents admission [] → FollowTrace tables [] →
    IsRecording limit admission index tables None
recorded_none limit admission index tables small none admission_is tables_are = record {
  small = small;
  within = subst (λ (s : Trace). length s ≤ limit) (sym none) (omega arith);
  admission_is = subst (FollowEvents admission) (sym none) admission_is;
  tables_are = subst (FollowTrace tables) (sym none) tables_are;
  room = λ e h. absurd (none-some e h);
}

-- gate, index and tables have more memory, and show the same
pub recorded_same : (limit : ℕ) (admission grown : AdmissionTables) (index more : IndexView) (tables longer : LockTables) (ready : Option Event) →
    ((s : Trace) → FollowEvents admission s → FollowEvents grown s) → more.events ≡ index.events → ((s : Trace) → FollowTrace tables s → FollowTrace longer s) → IsRecording limit admission index tables ready →
    IsRecording limit grown more longer None
recorded_same limit admission grown index more tables longer ready admissions same follow is = record {
  small = is.small;
  within = subst (λ (s : Trace). length s ≤ limit) (sym same) is.within;
  admission_is = subst (FollowEvents grown) (sym same) (admissions index.events is.admission_is);
  tables_are = subst (FollowTrace longer) (sym same) (follow index.events is.tables_are);
  room = λ e h. absurd (none-some e h);
}

-- memory is reserved for the event in all of them
pub recorded_ready : (limit : ℕ) (admission : AdmissionTables) (index : IndexView) (tables : LockTables) (e : Event) → HaveEventRoom admission index tables e → IsRecording limit admission index tables None →
    IsRecording limit admission index tables (Some e)
recorded_ready limit admission index tables e room is = record {
  small = is.small;
  within = is.within;
  admission_is = is.admission_is;
  tables_are = is.tables_are;
  room = λ other h. subst (HaveEventRoom admission index tables) (same_Some e other h) room;
}
