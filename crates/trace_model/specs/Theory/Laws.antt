-- Laws of the definitions. Each is the contract of a public function.
use Rattle.std.specs.Prelude.{◌≡◌, ◌≢◌, ℕ, ◌<◌, ◌≤◌, ◌↔◌, ◌⊎◌, min, IsTrue, IsSome, List, [], ◌∷◌, ◌++◌, length, take, slice_get, Some, None}
use Rattle.std.specs.List.{Contains}
use Rattle.std.specs.List.Sorted.{IsStrictlyIncreasing}
use Rattle.trace_model.specs.declared.limits.TheConstants.{MAX_EVENTS}
use Rattle.trace_model.specs.declared.traces.event.Event.{Event}
use Rattle.trace_model.specs.declared.traces.event.Op.{Op}
use Rattle.trace_model.specs.declared.traces.event.Op.TheVariants.{Fork, Join, Read}
use Rattle.trace_model.specs.Theory.Trace.{Trace, Does, OfThread, occurs}
use Rattle.trace_model.specs.Theory.Held.{Begins, BeginsOn, Ends, Holds, InSection, held_set, has}
use Rattle.trace_model.specs.Theory.Lawful.{held_by_other, refusal_of, IsWellFormed}
use Rattle.trace_model.specs.Theory.Dependencies.{Dependency, dependency_at, dependencies}
use Rattle.trace_model.specs.Theory.Cycles.{IsCycle, IsInstance}
use Rattle.trace_model.specs.Theory.Rows.{Row, NoLater, AreRows, LeavesDeadlocked, AreSound}
use Rattle.trace_model.specs.Theory.Walk.{Walks}
use Rattle.trace_model.specs.Theory.Lookups.{writer, release, GreatestWrite, LeastRelease}
use Rattle.trace_model.specs.Theory.Reordering.{IsReordering, Reaches, AreReached}
use Rattle.trace_model.specs.Theory.Closure.{Places, InClosure, IsClosure, ascending_places}

-- The held set contains exactly the locks that are held.
abbrev pub HeldListIsHeldSet : Type 0
HeldListIsHeldSet = (s : Trace) (p t l : ℕ) → IsTrue (has l (held_set s p t)) ↔ Holds s p t l

-- The writer of a read is the last write to its variable before it.
abbrev pub WriterIsGreatest : Type 0
WriterIsGreatest = (s : Trace) (q v w : ℕ) → Does s q (Read v) → (writer s q ≡ Some w) ↔
    GreatestWrite s v q w

-- A thread holds a lock exactly if it is in a critical section on it.
abbrev pub HoldsInSection : Type 0
HoldsInSection = (s : Trace) (p t l : ℕ) → Holds s p t l ↔ InSection s p t l

-- A place has a release exactly if a critical section begins there that its thread ends, and the
-- release is the first such end.
abbrev pub ReleaseIsLeast : Type 0
ReleaseIsLeast = (s : Trace) (p r : ℕ) →
    (release s p ≡ Some r) ↔ ((t : ℕ) × (l : ℕ) × Begins s p t l × LeastRelease s t l p r)

-- The closure contains none of the places exactly if some sync-preserving reordering reaches them
-- (Tunç et al. 2023).
abbrev pub ClosureIsExistence : Type 0
ClosureIsExistence =
    (s : Trace) → IsWellFormed s → (places : List ℕ) (set : Places) → IsClosure s places set →
    ((p : ℕ) → Contains places p → IsTrue (set p) → ⊥) ↔ AreReached s places

-- If the places are reached, then the closure in ascending order is a reordering that reaches them,
-- and each other such reordering contains the closure.
abbrev pub ClosureIsSmallest : Type 0
ClosureIsSmallest =
    (s : Trace) → IsWellFormed s → (places : List ℕ) (set : Places) → IsClosure s places set →
    AreReached s places →
    IsReordering s (ascending_places set (length s))
    × Reaches s (ascending_places set (length s)) places
    × ((order : List ℕ) → IsReordering s order → Reaches s order places →
    (q : ℕ) → IsTrue (set q) → Contains order q)

-- Every place of the closure is before the greatest given place.
abbrev pub ClosureIsBefore : Type 0
ClosureIsBefore =
    (s : Trace) → IsWellFormed s → (places : List ℕ) (greatest q : ℕ) →
    ((p : ℕ) → Contains places p → p ≤ greatest) → InClosure s places q → q < greatest

-- In a longer trace the closure is the same, and the same places are reached.
abbrev pub ClosureIsStable : Type 0
ClosureIsStable =
    (s more : Trace) → IsWellFormed s → IsWellFormed (s ++ more) → (places : List ℕ) →
    ((p : ℕ) → Contains places p → p < length s) →
    ((q : ℕ) → InClosure s places q ↔ InClosure (s ++ more) places q)
    × (AreReached s places ↔ AreReached (s ++ more) places)

-- The lesser place of the two lists at each index.
abbrev pub lesser : List ℕ → List ℕ → List ℕ
lesser (x ∷ xs) (y ∷ ys) = min x y ∷ lesser xs ys
lesser _ _ = []

-- At each index, the places of the two lists are of one thread.
abbrev pub OfSameThreads : Trace → List ℕ → List ℕ → Type 0
OfSameThreads s xs ys =
    (k x y : ℕ) → slice_get xs k ≡ Some x → slice_get ys k ≡ Some y → (t : ℕ) × OfThread s x t
    × OfThread s y t

-- If two instances are reached, then their index-wise lesser is reached.
abbrev pub LesserIsReached : Type 0
LesserIsReached =
    (s : Trace) → IsWellFormed s → (xs ys : List ℕ) → OfSameThreads s xs ys →
    AreReached s xs → AreReached s ys → AreReached s (lesser xs ys)

-- The test `stands` is true exactly if some event of the trace has the operation.
abbrev pub OccursIffSomeEvent : Type 0
OccursIffSomeEvent = (s : Trace) (o : Op) → IsTrue (occurs s o) ↔ ((p : ℕ) × Does s p o)

-- The test `held_by_other` is true exactly if a thread other than t holds the lock after the trace.
abbrev pub HeldByOtherIffOwner : Type 0
HeldByOtherIffOwner =
    (s : Trace) (t l : ℕ) → IsTrue (held_by_other s t l) ↔
    ((u : ℕ) × (u ≢ t) × Holds s (length s) u l)

-- Held sets ascend.
abbrev pub HeldAscends : Type 0
HeldAscends = (s : Trace) (p t : ℕ) → IsStrictlyIncreasing (held_set s p t)

-- Dependencies are distinct, are those of the outermost acquires, and are numbered by first
-- appearance.
abbrev pub DependenciesAreNumbered : Type 0
DependenciesAreNumbered =
    (s : Trace) →
    ((i j : ℕ) (d : Dependency) → slice_get (dependencies s) i ≡ Some d →
    slice_get (dependencies s) j ≡ Some d → i ≡ j)
    × ((p : ℕ) (d : Dependency) → dependency_at s p ≡ Some d → (m : ℕ)
    × (slice_get (dependencies s) m ≡ Some d))
    × ((m : ℕ) (d : Dependency) → slice_get (dependencies s) m ≡ Some d → (p : ℕ)
    × (dependency_at s p ≡ Some d))
    × ((i j q : ℕ) (d e : Dependency) → i < j → slice_get (dependencies s) i ≡ Some d →
    slice_get (dependencies s) j ≡ Some e →
    dependency_at s q ≡ Some e → (p : ℕ) × (p < q) × (dependency_at s p ≡ Some d))

-- A reordering that reaches an instance of a cycle leaves that instance deadlocked.
abbrev pub ReachedIsDeadlocked : Type 0
ReachedIsDeadlocked =
    (s : Trace) → IsWellFormed s → (bound : ℕ) (numbers places order : List ℕ) →
    IsCycle (dependencies s) bound numbers → IsInstance s numbers places →
    IsReordering s order → Reaches s order places → LeavesDeadlocked s places order

-- A task has one list of exact rows.
abbrev pub RowsAreUnique : Type 0
RowsAreUnique =
    (s : Trace) (bound root : ℕ) (rows others : List Row) → AreRows s bound root rows →
    AreRows s bound root others → rows ≡ others

-- Exact rows are sound.
abbrev pub RowsAreSound : Type 0
RowsAreSound = (s : Trace) (bound root : ℕ) (rows : List Row) → AreRows s bound root rows →
    AreSound s bound root rows

-- A confirmed row is among the rows of each longer trace, at the same or a higher bound.
abbrev pub ConfirmedStays : Type 0
ConfirmedStays =
    (s more : Trace) → IsWellFormed (s ++ more) → (bound higher root : ℕ) → bound ≤ higher →
    (rows later : List Row) →
    AreRows s bound root rows → AreRows (s ++ more) higher root later →
    (row : Row) → Contains rows row → IsSome row.found → Contains later row

-- A prefix of a well-formed trace is well formed, and so is a well-formed trace with one more
-- lawful event.
abbrev pub WellFormedGrows : Type 0
WellFormedGrows =
    ((s : Trace) (n : ℕ) → IsWellFormed s → IsWellFormed (take n s))
    × ((s : Trace) (e : Event) → IsWellFormed s → refusal_of MAX_EVENTS s e ≡ None →
    IsWellFormed (s ++ e ∷ []))

-- A list is a sync-preserving reordering exactly if each of its places may come next after the
-- places before it.
abbrev pub ReorderingIsWalk : Type 0
ReorderingIsWalk = (s : Trace) → IsWellFormed s → (order : List ℕ) → IsReordering s order ↔
    Walks s order

-- If the places of an instance move later in their threads, then the closure grows.
abbrev pub ClosureGrows : Type 0
ClosureGrows =
    (s : Trace) (xs ys : List ℕ) → length xs ≡ length ys → OfSameThreads s xs ys → NoLater xs ys →
    (q : ℕ) → InClosure s xs q → InClosure s ys q

-- If the closure contains a given place, then that place is before the place at the same index of
-- each later reached instance.
abbrev pub CaughtIsEarly : Type 0
CaughtIsEarly =
    (s : Trace) (xs ys : List ℕ) → length xs ≡ length ys → OfSameThreads s xs ys → NoLater xs ys →
    AreReached s ys →
    (k x y : ℕ) → slice_get xs k ≡ Some x → slice_get ys k ≡ Some y → InClosure s xs x → x < y

-- In a well-formed trace, each event is of thread 0 or of a thread that was forked before it.
abbrev pub ThreadsAreForked : Type 0
ThreadsAreForked =
    (s : Trace) → IsWellFormed s → (q t : ℕ) → OfThread s q t → (t ≡ 0)
    ⊎ ((f : ℕ) × (f < q) × Does s f (Fork t))

-- In a well-formed trace, thread 0 is not forked, and no thread is forked twice.
abbrev pub ThreadsAreForkedOnce : Type 0
ThreadsAreForkedOnce =
    (s : Trace) → IsWellFormed s → (f c : ℕ) → Does s f (Fork c) → (c ≢ 0)
    × ((g : ℕ) → Does s g (Fork c) → f ≡ g)

-- In a well-formed trace, all places of a thread are before its join.
abbrev pub NothingFollowsJoin : Type 0
NothingFollowsJoin = (s : Trace) → IsWellFormed s → (j q c : ℕ) → Does s j (Join c) →
    OfThread s q c → q < j

-- In a well-formed trace, the release of an acquire is a later event of the same thread.
abbrev pub ReleaseIsOwn : Type 0
ReleaseIsOwn =
    (s : Trace) → IsWellFormed s → (p t l r : ℕ) → Begins s p t l → release s p ≡ Some r → (p < r)
    × Ends s r t l

-- In a well-formed trace, two critical sections on one lock do not overlap: the release of the
-- earlier one is before the later one.
abbrev pub SectionsAreApart : Type 0
SectionsAreApart =
    (s : Trace) → IsWellFormed s → (p q l : ℕ) → p < q → BeginsOn s p l → BeginsOn s q l →
    (r : ℕ) × (release s p ≡ Some r) × (p < r) × (r < q)
