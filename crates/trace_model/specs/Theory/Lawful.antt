-- Lawful events and well-formed traces. Well-formedness (lock and fork/join semantics) is the usual
-- assumption of Tunç et al. 2023; the limits and the order of the tests are this project's profile.
use Rattle.std.specs.Prelude.{◌≡◌, ℕ, Bool, true, false, not, ◌==◌, ◌&&◌, ◌||◌, nat_le, nat_lt, length, take, Option, Some, None, if◌then◌else◌}
use Rattle.std.specs.List.{list_any, count_by}
use Rattle.trace_model.specs.declared.traces.event.Event.{Event}
use Rattle.trace_model.specs.declared.traces.event.Op.{Op}
use Rattle.trace_model.specs.declared.traces.event.Op.TheVariants.{Fork, Join, Acquire, Release, Read, Write}
use Rattle.trace_model.specs.declared.refusal.Refusal.{Refusal}
use Rattle.trace_model.specs.declared.refusal.Refusal.TheVariants.{Full, Unforked, Ended, AlreadyForked, TooManyThreads, JoinsItself, JoinUnknown, JoinedTwice, TooNested, HeldByOther, TooDeep, NotHeld}
use Rattle.trace_model.specs.declared.limits.TheConstants.{MAX_EVENTS, MAX_FORKS, MAX_HELD, MAX_DEPTH}
use Rattle.trace_model.specs.Theory.Trace.{Trace, At, occurs}
use Rattle.trace_model.specs.Theory.Held.{depth, held_set}

-- The operation is a fork.
abbrev pub is_fork : Op → Bool
is_fork (Fork c) = true
is_fork _ = false

-- The number of forks in the trace.
abbrev pub forks : Trace → ℕ
forks s = count_by (λ e. is_fork e.op) s

-- Thread t holds lock l after the trace.
abbrev pub held_by : Trace → ℕ → ℕ → Bool
held_by s t l = nat_lt 0 (depth s (length s) t l)

-- A thread other than t holds lock l after the trace.
abbrev pub held_by_other : Trace → ℕ → ℕ → Bool
held_by_other s t l = list_any (λ e. not (e.thread == t) && held_by s e.thread l) s

-- The first refusal that applies to operation o of thread t after the trace, or none.
abbrev pub op_refusal_of : Trace → ℕ → Op → Option Refusal
op_refusal_of s t (Fork c) =
    if c == 0 || occurs s (Fork c) then Some AlreadyForked
    else (if nat_le MAX_FORKS (forks s) then Some TooManyThreads
    else None)
op_refusal_of s t (Join c) =
    if c == t then Some JoinsItself
    else (if c == 0 || not (occurs s (Fork c)) then Some JoinUnknown
    else (if occurs s (Join c) then Some JoinedTwice
    else None))
op_refusal_of s t (Acquire l) =
    if nat_le MAX_DEPTH (depth s (length s) t l) then Some TooNested
    else (if held_by_other s t l then Some HeldByOther
    else (if not (held_by s t l) && nat_le MAX_HELD (length (held_set s (length s) t))
    then Some TooDeep
    else None))
op_refusal_of s t (Release l) = if held_by s t l then None else Some NotHeld
op_refusal_of s t (Read v) = None
op_refusal_of s t (Write v) = None

-- The first refusal that applies to event e after the trace, or none if e is lawful. `limit` is the
-- greatest length of the trace.
abbrev pub refusal_of : ℕ → Trace → Event → Option Refusal
refusal_of limit s e =
    if nat_le limit (length s) then Some Full
    else (if not (e.thread == 0) && not (occurs s (Fork e.thread)) then Some Unforked
    else (if occurs s (Join e.thread) then Some Ended
    else op_refusal_of s e.thread e.op))

-- Each event of the trace is lawful after the events before it.
abbrev pub IsWellFormed : Trace → Type 0
IsWellFormed s = (p : ℕ) (e : Event) → At s p e → refusal_of MAX_EVENTS (take p s) e ≡ None
