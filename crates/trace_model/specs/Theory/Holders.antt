-- The owner of a lock and its depth, computed by one pass over the events (this project's profile).
use Rattle.std.specs.Prelude.{ℕ, suc, ◌-◌, Bool, false, not, ◌==◌, ◌&&◌, nat_le, fold, Option, Some, None, if◌then◌else◌}
use Rattle.trace_model.specs.declared.traces.event.Event.{Event}
use Rattle.trace_model.specs.declared.traces.event.Op.TheVariants.{Acquire, Release}
use Rattle.trace_model.specs.declared.traces.owner.Owner.{Owner}
use Rattle.trace_model.specs.Theory.Trace.{Trace, op_eq}

-- The depth of an owner. A free lock has depth 0.
abbrev pub owner_depth : Option Owner → ℕ
owner_depth None = 0
owner_depth (Some o) = o.depth

-- The owner after one release.
abbrev pub owner_after_release : Option Owner → Option Owner
owner_after_release None = None
owner_after_release (Some o) = if nat_le o.depth 1 then None
    else Some (record { thread = o.thread; depth = o.depth - 1 })

-- The owner of lock l after event e, if it was o before.
abbrev pub owner_after : ℕ → Option Owner → Event → Option Owner
owner_after l o e =
    if op_eq e.op (Acquire l) then Some (record { thread = e.thread; depth = suc (owner_depth o) })
    else (if op_eq e.op (Release l) then owner_after_release o else o)

-- The owner of lock l after the trace, or none if the lock is free.
abbrev pub owner : Trace → ℕ → Option Owner
owner s l = fold (owner_after l) None s

-- The depth at which thread t holds a lock with owner o.
abbrev pub depth_by : Option Owner → ℕ → ℕ
depth_by None t = 0
depth_by (Some o) t = if o.thread == t then o.depth else 0

-- The owner is a thread other than t.
abbrev pub is_other_owner : Option Owner → ℕ → Bool
is_other_owner None t = false
is_other_owner (Some o) t = not (o.thread == t)

-- Event e is an acquire of lock l by thread t.
abbrev pub is_acquire_by : ℕ → ℕ → Event → Bool
is_acquire_by t l e = (e.thread == t) && op_eq e.op (Acquire l)

-- Event e is a release of lock l by thread t.
abbrev pub is_release_by : ℕ → ℕ → Event → Bool
is_release_by t l e = (e.thread == t) && op_eq e.op (Release l)
