-- When each test of the checker fails: at the place `q` of the trace, with the places of `passed`
-- before it in the list.
use Rattle.std.specs.Prelude.{◌≡◌, ◌≢◌, ℕ, ◌<◌, ◌≤◌, ◌⊎◌, List, length, Some, MatchOption, codes}
use Rattle.std.specs.List.{Contains}
use Rattle.trace_model.specs.declared.traces.event.Op.TheVariants.{Fork, Join, Read, Write}
use Rattle.trace_model.specs.Theory.Trace.{Trace, Does, OfThread, EarlierInThread}
use Rattle.trace_model.specs.Theory.Held.{BeginsOn}
use Rattle.trace_model.specs.Theory.Lookups.{writer, release}
use Rattle.trace_model.specs.Theory.Walk.{LastIn}
use Rattle.replay.specs.declared.verdict.Fault.{Fault}
use Rattle.replay.specs.declared.verdict.Fault.TheVariants.{OutOfTrace, Repeated, ThreadOrder, ForkOrder, JoinOrder, WrongWriter, Overlap, LockOrder, TooFar, NotReached}

-- No fork of the thread was passed.
abbrev pub NoForkIn : Trace → List ℕ → ℕ → Type 0
NoForkIn s passed t = (p : ℕ) → Contains passed p → Does s p (Fork t) → ⊥

-- No write to the variable was passed.
abbrev pub NoWriteIn : Trace → List ℕ → ℕ → Type 0
NoWriteIn s passed v = (u : ℕ) → Does s u (Write v) → Contains passed u → ⊥

-- A place of the thread below the end was not passed.
abbrev pub MissesPlace : Trace → List ℕ → ℕ → ℕ → Type 0
MissesPlace s passed t end = (p : ℕ) × (p < end) × OfThread s p t × (Contains passed p → ⊥)

-- An earlier place of its thread was not passed.
abbrev pub MissesEarlier : Trace → List ℕ → ℕ → Type 0
MissesEarlier s passed q = (p : ℕ) × EarlierInThread s p q × (Contains passed p → ⊥)

-- The fork of the thread or a place of it was not passed.
abbrev pub MissesThread : Trace → List ℕ → ℕ → Type 0
MissesThread s passed c = NoForkIn s passed c ⊎ ((p : ℕ) × OfThread s p c × (Contains passed p → ⊥))

-- The last passed write to the variable is the writer of the read, or neither exists.
abbrev pub SeesWriter : Trace → List ℕ → ℕ → ℕ → Type 0
SeesWriter s passed q v =
    MatchOption (writer s q) (NoWriteIn s passed v) (LastIn s passed v)

-- The acquire's release was passed.
abbrev pub IsClosedIn : Trace → List ℕ → ℕ → Type 0
IsClosedIn s passed p = (r : ℕ) × (release s p ≡ Some r) × Contains passed r

-- A section on the lock begins at the place, and its release was not passed.
abbrev pub IsOpenIn : Trace → List ℕ → ℕ → ℕ → Type 0
IsOpenIn s passed l p = BeginsOn s p l × (IsClosedIn s passed p → ⊥)

-- An outermost acquire of the lock was passed without its release.
abbrev pub LeavesOpen : Trace → List ℕ → ℕ → Type 0
LeavesOpen s passed l = (p : ℕ) × Contains passed p × IsOpenIn s passed l p

-- A later outermost acquire of the lock was passed.
abbrev pub HasLater : Trace → List ℕ → ℕ → ℕ → Type 0
HasLater s passed q l = (p : ℕ) × Contains passed p × BeginsOn s p l × (q < p)

-- The test fails at the place.
abbrev pub Breaks : Fault → Trace → List ℕ → ℕ → Type 0
Breaks OutOfTrace s passed q = length s ≤ q
Breaks Repeated s passed q = Contains passed q
Breaks ThreadOrder s passed q = MissesEarlier s passed q
Breaks ForkOrder s passed q = (t : ℕ) × OfThread s q t × (t ≢ 0) × NoForkIn s passed t
Breaks JoinOrder s passed q = (c : ℕ) × Does s q (Join c) × MissesThread s passed c
Breaks WrongWriter s passed q = (v : ℕ) × Does s q (Read v) × (SeesWriter s passed q v → ⊥)
Breaks Overlap s passed q = (l : ℕ) × BeginsOn s q l × LeavesOpen s passed l
Breaks LockOrder s passed q = (l : ℕ) × BeginsOn s q l × HasLater s passed q l
Breaks TooFar s passed q = Contains passed q
Breaks NotReached s passed q = MissesEarlier s passed q

-- The printed name of a test.
abbrev pub test_name : Fault → List ℕ
test_name OutOfTrace = codes "OutOfTrace"
test_name Repeated = codes "Repeated"
test_name ThreadOrder = codes "ThreadOrder"
test_name ForkOrder = codes "ForkOrder"
test_name JoinOrder = codes "JoinOrder"
test_name WrongWriter = codes "WrongWriter"
test_name Overlap = codes "Overlap"
test_name LockOrder = codes "LockOrder"
test_name TooFar = codes "TooFar"
test_name NotReached = codes "NotReached"
