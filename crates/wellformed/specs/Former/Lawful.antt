-- Lawful events and well-formed traces, without inner acquires.
use Rattle.std.specs.Prelude.{◌≡◌, ℕ, Bool, not, ◌==◌, ◌&&◌, nat_le, length, take, Option, Some, None, if◌then◌else◌}
use Rattle.std.specs.List.{list_any}
use Rattle.trace_model.specs.declared.traces.event.Event.{Event}
use Rattle.trace_model.specs.declared.traces.event.Op.{Op}
use Rattle.trace_model.specs.declared.traces.event.Op.TheVariants.{Fork, Join, Acquire, Release}
use Rattle.trace_model.specs.declared.refusal.Refusal.{Refusal}
use Rattle.trace_model.specs.declared.refusal.Refusal.TheVariants.{Full, Unforked, Ended, TooNested, HeldByOther, TooDeep, NotHeld}
use Rattle.trace_model.specs.declared.limits.TheConstants.{MAX_EVENTS, MAX_HELD}
use Rattle.trace_model.specs.Theory.Trace.{Trace, At, occurs}
use Rattle.trace_model.specs.Theory.Held.{has}
use Rattle.trace_model.specs.Theory.Lawful as present
use Rattle.wellformed.specs.Former.Held.{former_held}

-- Thread t holds lock l after the trace.
abbrev pub former_held_by : Trace → ℕ → ℕ → Bool
former_held_by s t l = has l (former_held s (length s) t)

-- A thread other than t holds lock l after the trace.
abbrev pub former_held_by_other : Trace → ℕ → ℕ → Bool
former_held_by_other s t l = list_any (λ e. not (e.thread == t) && former_held_by s e.thread l) s

-- The first refusal that applies to operation o of thread t. An acquire of a held lock is refused
-- as too nested.
abbrev pub former_op_refusal_of : Trace → ℕ → Op → Option Refusal
former_op_refusal_of s t (Acquire l) =
    if former_held_by s t l then Some TooNested
    else (if former_held_by_other s t l then Some HeldByOther
    else (if nat_le MAX_HELD (length (former_held s (length s) t)) then Some TooDeep
    else None))
former_op_refusal_of s t (Release l) = if former_held_by s t l then None else Some NotHeld
former_op_refusal_of s t op = present.op_refusal_of s t op

-- The first refusal that applies to event e after the trace, or none if e is lawful.
abbrev pub former_refusal_of : ℕ → Trace → Event → Option Refusal
former_refusal_of limit s e =
    if nat_le limit (length s) then Some Full
    else (if not (e.thread == 0) && not (occurs s (Fork e.thread)) then Some Unforked
    else (if occurs s (Join e.thread) then Some Ended
    else former_op_refusal_of s e.thread e.op))

-- Each event of the trace is lawful after the events before it.
abbrev pub IsFormerWellFormed : Trace → Type 0
IsFormerWellFormed s = (p : ℕ) (e : Event) → At s p e →
    former_refusal_of MAX_EVENTS (take p s) e ≡ None
