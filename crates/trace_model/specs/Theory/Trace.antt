-- Traces: events, places, and tests on them. A trace is an execution trace of Bensalem and Havelund
-- 2005.
use Rattle.std.specs.Prelude.{◌≡◌, ℕ, zero, suc, ◌<◌, Bool, false, ◌==◌, List, slice_get, Option, Some, None, if◌then◌else◌}
use Rattle.std.specs.List.{list_any}
use Rattle.std.specs.Option.{option_map_or}
use Rattle.trace_model.specs.declared.traces.event.Event.{Event}
use Rattle.trace_model.specs.declared.traces.event.Op.{Op}
use Rattle.trace_model.specs.declared.traces.event.Op.TheVariants.{Fork, Join, Acquire, Release, Read, Write}

-- A trace is a list of events. A place is a 0-based index into it.
abbrev pub Trace : Type 0
Trace = List Event

-- The event of thread t with operation o.
abbrev pub event : ℕ → Op → Event
event t o = record { thread = t; op = o }

-- The event e is at place p.
abbrev pub At : Trace → ℕ → Event → Type 0
At s p e = slice_get s p ≡ Some e

-- The event at place p has operation o, in any thread.
abbrev pub Does : Trace → ℕ → Op → Type 0
Does s p o = (t : ℕ) × At s p (event t o)

-- The event at place p is an event of thread t.
abbrev pub OfThread : Trace → ℕ → ℕ → Type 0
OfThread s p t = (o : Op) × At s p (event t o)

-- Place p is before place q, and both are of one thread: thread order (program order) of Tunç et
-- al. 2023.
abbrev pub EarlierInThread : Trace → ℕ → ℕ → Type 0
EarlierInThread s p q = (t : ℕ) × OfThread s p t × OfThread s q t × (p < q)

-- Equality of operations, as a test.
abbrev pub op_eq : Op → Op → Bool
op_eq (Fork a) (Fork b) = a == b
op_eq (Join a) (Join b) = a == b
op_eq (Acquire a) (Acquire b) = a == b
op_eq (Release a) (Release b) = a == b
op_eq (Read a) (Read b) = a == b
op_eq (Write a) (Write b) = a == b
op_eq _ _ = false

-- `Does`, as a test.
abbrev pub does : Trace → Op → ℕ → Bool
does s o p = option_map_or (λ e. op_eq e.op o) (slice_get s p) false

-- Some event of the trace has operation o.
abbrev pub occurs : Trace → Op → Bool
occurs s o = list_any (λ e. op_eq e.op o) s

-- The greatest place below n that passes the test, or none.
abbrev pub last_place : (ℕ → Bool) → ℕ → Option ℕ
last_place test zero = None
last_place test (suc n) = if test n then Some n else last_place test n

-- The least of the n places k, k + 1, .. that passes the test, or none.
abbrev pub first_place : (ℕ → Bool) → ℕ → ℕ → Option ℕ
first_place test k zero = None
first_place test k (suc n) = if test k then Some k else first_place test (suc k) n
