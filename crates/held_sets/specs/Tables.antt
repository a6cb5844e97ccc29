-- Tables of the locks that each thread holds, with depths. The held set is the lock set of Havelund
-- 2000.
use Rattle.std.specs.Prelude.{◌≡◌, ℕ, suc, ◌<◌, Bool, true, false, ◌==◌, nat_le, List, [], ◌∷◌, ◌++◌, length, map, slice_get, nat_eq, Option, None, Some, unwrap_or, IsSome, Contains, if◌then◌else◌}
use Rattle.std.specs.List.{AllByRecursion}
use Rattle.std.specs.List.Sorted.{IsStrictlyIncreasing}
use Rattle.std.specs.Map.{lookup}
use Rattle.std.specs.Option.{option_map_or}
use Rattle.trace_model.specs.declared.traces.event.Event.{Event}
use Rattle.trace_model.specs.declared.traces.event.Op.{Op}
use Rattle.trace_model.specs.declared.traces.event.Op.TheVariants.{Acquire, Release}
use Rattle.trace_model.specs.declared.limits.TheConstants.{MAX_HELD, MAX_DEPTH}
use Rattle.trace_model.specs.Theory.Lawful.{refusal_of, IsWellFormed}
use Rattle.trace_model.specs.Theory.Trace.{Trace, event, At}
use Rattle.trace_model.specs.Theory.Held.{has, with_lock, without_lock, held_after, held_step, depth_after, depth_step}
use Rattle.trace_model.specs.Theory.Held
use Rattle.held_sets.specs.declared.holding.LockDepth.{LockDepth}

-- No lock is in both sets.
abbrev pub AreDisjoint : List ℕ → List ℕ → Type 0
AreDisjoint xs ys = (lock : ℕ) → Contains xs lock → Contains ys lock → ⊥

-- The locks of a holding.
abbrev pub locks_of : List LockDepth → List ℕ
locks_of ds = map (λ d. d.lock) ds

-- The depth of lock l in a holding, 0 if it is not held.
abbrev pub depth_of : List LockDepth → ℕ → ℕ
depth_of [] l = 0
depth_of (d ∷ ds) l = if d.lock == l then d.depth else depth_of ds l

-- The held set at an outermost acquire of lock l, or none if it is empty or has the lock.
abbrev pub outer_locks : ℕ → List ℕ → Option (List ℕ)
outer_locks l [] = None
outer_locks l (k ∷ ks) = if has l (k ∷ ks) then None else Some (k ∷ ks)

-- The locks ascend, and each depth is above 0.
pub record IsHolding (ds : List LockDepth) : Type 0 where
  pub ascends : IsStrictlyIncreasing (locks_of ds)
  pub some : AllByRecursion (λ d. 0 < d.depth) ds

-- The index of the first lock that is not below l, or the length.
abbrev pub index_for : ℕ → List LockDepth → ℕ
index_for l [] = 0
index_for l (d ∷ ds) = if nat_le l d.lock then 0 else suc (index_for l ds)

-- The depth of lock l if it is at index i, else 0.
abbrev pub depth_at : ℕ → List LockDepth → ℕ → ℕ
depth_at l ds i = option_map_or (λ d. if d.lock == l then d.depth else 0) (slice_get ds i) 0

-- The new holding is the old one with depth n for lock l. At depth 0 the lock is not held.
pub record HasDepth (old : List LockDepth) (l n : ℕ) (new : List LockDepth) : Type 0 where
  pub locks : locks_of new ≡
      (if n == 0 then without_lock l (locks_of old) else with_lock l (locks_of old))
  pub depths : (m : ℕ) → depth_of new m ≡ (if l == m then n else depth_of old m)
  pub same : 0 < n → 0 < depth_of old l → locks_of new ≡ locks_of old

-- The new holding is the old one after its thread did operation o.
pub record IsHeldAfter (old : List LockDepth) (o : Op) (new : List LockDepth) : Type 0 where
  pub locks : locks_of new ≡ held_after (depth_of old) o (locks_of old)
  pub depths : (m : ℕ) → depth_of new m ≡ depth_after o m (depth_of old m)

-- The holding of each thread that has an entry, by thread number.
abbrev pub HoldingTable : Type 0
HoldingTable = List (ℕ × List LockDepth)

-- The holding of thread t. A thread without an entry holds nothing.
abbrev pub holding_in : HoldingTable → ℕ → List LockDepth
holding_in table t = unwrap_or (lookup (nat_eq t) table) []

-- The locks that thread t holds, ascending.
abbrev pub held_in : HoldingTable → ℕ → List ℕ
held_in table t = locks_of (holding_in table t)

-- The depth at which thread t holds lock l.
abbrev pub holding_depth : HoldingTable → ℕ → ℕ → ℕ
holding_depth table t l = depth_of (holding_in table t) l

-- Thread t has an entry.
abbrev pub HasThreadEntry : HoldingTable → ℕ → Type 0
HasThreadEntry table t = IsSome (lookup (nat_eq t) table)

-- The new table is the old one after thread t did operation o.
pub record IsAfter (old : HoldingTable) (t : ℕ) (o : Op) (new : HoldingTable) : Type 0 where
  pub held : (u : ℕ) →
      held_in new u ≡ held_step (holding_depth old u) (Some (event t o)) u (held_in old u)
  pub depth : (u l : ℕ) →
      holding_depth new u l ≡ depth_step (Some (event t o)) u l (holding_depth old u l)

-- The table has the held set and the depths of each thread right before place n of the trace.
pub record HasHeldSetsOf (table : HoldingTable) (s : Trace) (n : ℕ) : Type 0 where
  pub held : (t : ℕ) → held_in table t ≡ Held.held_set s n t
  pub depth : (t l : ℕ) → holding_depth table t l ≡ Held.depth s n t l

-- The operation is neither an acquire nor a release.
abbrev pub keeps_locks : Op → Bool
keeps_locks (Acquire l) = false
keeps_locks (Release l) = false
keeps_locks _ = true

-- A table that follows the trace to place n follows it to the next place: after an acquire or a
-- release if it records that event, after any other event unchanged.
abbrev pub HoldingTablesFollow : Type 0
HoldingTablesFollow = (old new : HoldingTable) (s : Trace) (n : ℕ) (e : Event) →
    HasHeldSetsOf old s n → At s n e →
    (IsAfter old e.thread e.op new → HasHeldSetsOf new s (suc n)) ×
    (keeps_locks e.op ≡ true → HasHeldSetsOf old s (suc n))

-- A table that follows a trace follows it with one more event: after an acquire or a release if it
-- records that event, after any other event unchanged.
abbrev pub HoldingTablesGrow : Type 0
HoldingTablesGrow = (old new : HoldingTable) (s : Trace) (e : Event) →
    HasHeldSetsOf old s (length s) →
    (IsAfter old e.thread e.op new → HasHeldSetsOf new (s ++ e ∷ []) (length (s ++ e ∷ []))) ×
    (keeps_locks e.op ≡ true → HasHeldSetsOf old (s ++ e ∷ []) (length (s ++ e ∷ [])))

-- Thread t may acquire lock l: the depth is below MAX_DEPTH, and a new lock finds fewer than
-- MAX_HELD.
abbrev pub Fits : HoldingTable → ℕ → ℕ → Type 0
Fits table t l =
    (holding_depth table t l < MAX_DEPTH) ×
    (holding_depth table t l ≡ 0 → length (held_in table t) < MAX_HELD)

-- A lawful acquire fits.
abbrev pub LawfulAcquiresFit : Type 0
LawfulAcquiresFit = (table : HoldingTable) (limit : ℕ) (s : Trace) (t l : ℕ) →
    HasHeldSetsOf table s (length s) →
    refusal_of limit s (event t (Acquire l)) ≡ None → Fits table t l

-- Each acquire of a well-formed trace fits at its place.
abbrev pub AcquiresFit : Type 0
AcquiresFit = (table : HoldingTable) (s : Trace) (n t l : ℕ) → IsWellFormed s →
    HasHeldSetsOf table s n →
    At s n (event t (Acquire l)) → Fits table t l
