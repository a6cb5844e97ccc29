-- Held locks and critical sections. The held set is the lock set of Havelund 2000. A thread may
-- acquire a lock that it holds; counting these inner acquires by depth is this project's profile.
use Rattle.std.specs.Prelude.{◌≡◌, ℕ, Bool, false, zero, suc, ◌<◌, ◌-◌, not, ◌==◌, ◌&&◌, nat_lt, nat_le, List, [], ◌∷◌, slice_get, Option, Some, None, if◌then◌else◌}
use Rattle.std.specs.List.{list_any, filter}
use Rattle.std.specs.Option.{option_and_then, option_map_or}
use Rattle.trace_model.specs.declared.traces.event.Event.{Event}
use Rattle.trace_model.specs.declared.traces.event.Op.{Op}
use Rattle.trace_model.specs.declared.traces.event.Op.TheVariants.{Acquire, Release}
use Rattle.trace_model.specs.Theory.Trace.{Trace, event, At, op_eq}

-- The depth of lock l after operation o, if it was n before. A release of depth 0 leaves 0.
abbrev pub depth_after : Op → ℕ → ℕ → ℕ
depth_after (Acquire m) l n = if m == l then suc n else n
depth_after (Release m) l n = if m == l then n - 1 else n
depth_after _ l n = n

-- The depth of lock l for thread t after one more event, or after none.
abbrev pub depth_step : Option Event → ℕ → ℕ → ℕ → ℕ
depth_step None t l n = n
depth_step (Some e) t l n = if e.thread == t then depth_after e.op l n else n

-- The depth of lock l for thread t right before place p: the acquires less the releases so far.
abbrev pub depth : Trace → ℕ → ℕ → ℕ → ℕ
depth s zero t l = 0
depth s (suc p) t l = depth_step (slice_get s p) t l (depth s p t l)

-- At place p, thread t acquires lock l, which it does not hold: an outermost acquire. It begins a
-- critical section on l.
abbrev pub Begins : Trace → ℕ → ℕ → ℕ → Type 0
Begins s p t l = At s p (event t (Acquire l)) × (depth s p t l ≡ 0)

-- At place p, thread t releases lock l at depth 1: an outermost release. It ends a critical section
-- on l.
abbrev pub Ends : Trace → ℕ → ℕ → ℕ → Type 0
Ends s p t l = At s p (event t (Release l)) × (depth s p t l ≡ 1)

-- Some thread begins a critical section on lock l at place p.
abbrev pub BeginsOn : Trace → ℕ → ℕ → Type 0
BeginsOn s p l = (t : ℕ) × Begins s p t l

-- Some thread ends a critical section on lock l at place p.
abbrev pub EndsOn : Trace → ℕ → ℕ → Type 0
EndsOn s p l = (t : ℕ) × Ends s p t l

-- `BeginsOn`, as a test.
abbrev pub begins_on : Trace → ℕ → ℕ → Bool
begins_on s l p = option_map_or (λ e. op_eq e.op (Acquire l) && (depth s p e.thread l == 0))
    (slice_get s p) false

-- `Ends`, as a test.
abbrev pub ends_of : Trace → ℕ → ℕ → ℕ → Bool
ends_of s t l p = option_map_or (λ e. (e.thread == t) && op_eq e.op (Release l))
    (slice_get s p) false && (depth s p t l == 1)

-- The lock of a critical section that begins at place p, if the event there is operation o of
-- thread t.
abbrev pub begun_of : Trace → ℕ → ℕ → Op → Option ℕ
begun_of s p t (Acquire l) = if depth s p t l == 0 then Some l else None
begun_of s p t _ = None

-- The lock of the critical section that begins at place p, or none.
abbrev pub begun_lock : Trace → ℕ → Option ℕ
begun_lock s p = option_and_then (λ e. begun_of s p e.thread e.op) (slice_get s p)

-- Thread t holds lock l right before place p.
abbrev pub Holds : Trace → ℕ → ℕ → ℕ → Type 0
Holds s p t l = 0 < depth s p t l

-- Thread t began a critical section on lock l before place p, and has not ended it before p.
abbrev pub InSection : Trace → ℕ → ℕ → ℕ → Type 0
InSection s p t l =
    (a : ℕ) × (a < p) × Begins s a t l × ((r : ℕ) → a < r → r < p → Ends s r t l → ⊥)

-- Lock l is in the set. A set of locks is an ascending list.
abbrev pub has : ℕ → List ℕ → Bool
has l ks = list_any (λ k. k == l) ks

-- The set with lock l added.
abbrev pub with_lock : ℕ → List ℕ → List ℕ
with_lock l [] = l ∷ []
with_lock l (k ∷ ks) = if nat_lt l k then l ∷ k ∷ ks
    else (if l == k then k ∷ ks else k ∷ with_lock l ks)

-- The set without lock l.
abbrev pub without_lock : ℕ → List ℕ → List ℕ
without_lock l ks = filter (λ k. not (k == l)) ks

-- The held set after operation o, if it was ks before and the depths were as given.
abbrev pub held_after : (ℕ → ℕ) → Op → List ℕ → List ℕ
held_after depths (Acquire l) ks = with_lock l ks
held_after depths (Release l) ks = if nat_le (depths l) 1 then without_lock l ks else ks
held_after depths _ ks = ks

-- The held set of thread t after one more event, or after none.
abbrev pub held_step : (ℕ → ℕ) → Option Event → ℕ → List ℕ → List ℕ
held_step depths None t ks = ks
held_step depths (Some e) t ks = if e.thread == t then held_after depths e.op ks else ks

-- The held set of thread t right before place p: the lock set of Havelund 2000, ascending.
abbrev pub held_set : Trace → ℕ → ℕ → List ℕ
held_set s zero t = []
held_set s (suc p) t = held_step (depth s p t) (slice_get s p) t (held_set s p t)
