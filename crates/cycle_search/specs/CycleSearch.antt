-- The invariants of the search for cycles.
use Rattle.std.specs.Prelude.{◌≡◌, ◌≢◌, ℕ, suc, ◌+◌, ◌<◌, ◌≤◌, List, ◌∷◌, ◌++◌, length, slice_get, slice_index, Some, Result, Err}
use Rattle.arrayvec.specs.ArrayVec.{ArrayVec}
use Rattle.std.specs.List.{Contains, All}
use Rattle.std.specs.List.Sorted.{IsStrictlyIncreasing}
use Rattle.trace_model.specs.Theory.Dependencies.{Dependency}
use Rattle.held_sets.specs.Tables.{AreDisjoint}
use Rattle.trace_model.specs.Theory.Cycles.{Member, IsCycle, InOrder}
use Rattle.guards.specs.Compatible.{IsCompatible}
use Rattle.cycle_search.specs.declared.refused.SearchRefused.{SearchRefused}
use Rattle.cycle_search.specs.declared.refused.SearchRefused.TheVariants.{TooMany}
use Rattle.cycle_search.specs.declared.search.CycleSearch.{CycleSearch}
use Rattle.cycle_search.specs.Distances.{AreDistances}
use Rattle.cycle_search.specs.LockFilters.{MarksHeld}

-- Some of the lists with a property, each once, in lexicographic order.
pub record AreSome (P : List ℕ → Type 0) (lists : List (List ℕ)) : Type 0 where
  pub sound : (numbers : List ℕ) → Contains lists numbers → P numbers
  pub in_order : InOrder lists

-- All of the lists with the property, each once, in lexicographic order.
pub record AreAll (P : List ℕ → Type 0) (lists : List (List ℕ)) : Type 0 where
  pub some : AreSome P lists
  pub complete : (numbers : List ℕ) → P numbers → Contains lists numbers

-- There are more than `n` lists with the property.
abbrev pub MoreThan : (List ℕ → Type 0) → ℕ → Type 0
MoreThan P n = (some : List (List ℕ)) × AreSome P some × (n < length some)

-- The fact holds if a search failed with `TooMany`.
abbrev pub IfTooMany : {T : Type 0} → Result T SearchRefused → Type 0 → Type 0
IfTooMany result Fact = result ≡ Err TooMany → Fact

-- The distances are those to the root, and the filter passes the locks that the root holds.
pub record AreTables (search : CycleSearch) (root : ℕ) : Type 0 where
  pub distances : AreDistances search.search_input.now root search.distances.now
  pub filter : MarksHeld search.search_input.now root search.filter

-- The tables are those of the path's first member.
abbrev pub HasTables : CycleSearch → List ℕ → Type 0
HasTables search path = AreTables search (slice_index path 0)

-- With the members that must follow the number, the path has too many members.
abbrev pub IsTooFar : CycleSearch → List ℕ → ℕ → Type 0
IsTooFar search path next = search.members ≤ length path + slice_index search.distances.now next

-- A cycle up to the bound with this first number.
abbrev pub CycleFrom : List Dependency → ℕ → ℕ → List ℕ → Type 0
CycleFrom ds bound root numbers = IsCycle ds bound numbers × (slice_get numbers 0 ≡ Some root)

-- A cycle up to the bound that begins with the path followed by this number.
abbrev pub CycleThrough : List Dependency → ℕ → List ℕ → ℕ → List ℕ → Type 0
CycleThrough ds bound path next numbers =
    IsCycle ds bound numbers × ((rest : List ℕ) × (numbers ≡ path ++ next ∷ rest))

-- A cycle of the search that begins with the path followed by this number.
abbrev pub SearchedThrough : CycleSearch → ArrayVec ℕ → ℕ → List ℕ → Type 0
SearchedThrough search path next =
    CycleThrough search.search_input.now search.members path.items next

-- A cycle that begins with the path followed by a number with the property.
abbrev pub CycleOver : List Dependency → ℕ → List ℕ → (ℕ → Type 0) → List ℕ → Type 0
CycleOver ds bound path P numbers = (next : ℕ) × P next × CycleThrough ds bound path next numbers

-- A cycle of the search that begins with the path followed by a number above `after`.
abbrev pub SearchedAfter : CycleSearch → ArrayVec ℕ → ℕ → List ℕ → Type 0
SearchedAfter search path after =
    CycleOver search.search_input.now search.members path.items (λ next. after < next)

-- The number is one of the first `i` of these.
abbrev pub IsAmong : List ℕ → ℕ → ℕ → Type 0
IsAmong nexts i next = (k : ℕ) × (k < i) × (slice_get nexts k ≡ Some next)

-- A cycle that begins with the path followed by a number above `after`, up to `last`.
abbrev pub CycleUpTo : List Dependency → ℕ → List ℕ → ℕ → ℕ → List ℕ → Type 0
CycleUpTo ds bound path after last =
    CycleOver ds bound path (λ next. (after < next) × (next ≤ last))

-- The path may be the beginning of a cycle.
pub record IsPath (ds : List Dependency) (path : List ℕ) : Type 0 where
  pub begun : 0 < length path
  pub known : All (λ m. m < length ds) path
  pub least_first : (first m : ℕ) → slice_get path 0 ≡ Some first → Contains path m → first ≤ m
  pub threads_distinct : (i j : ℕ) (a b : Dependency) → i < j → Member ds path i a →
      Member ds path j b → a.thread ≢ b.thread
  pub held_disjoint : (i j : ℕ) (a b : Dependency) → i < j → Member ds path i a →
      Member ds path j b → AreDisjoint a.held b.held
  pub linked : (i : ℕ) (a b : Dependency) → Member ds path i a → Member ds path (suc i) b →
      Contains b.held a.lock

-- The dependency holds the lock of the path's last member.
abbrev pub LinksTo : List Dependency → List ℕ → ℕ → Type 0
LinksTo ds path next = (k : ℕ) (a b : Dependency) → suc k ≡ length path → Member ds path k a →
    slice_get ds next ≡ Some b → Contains b.held a.lock

-- The path's first member holds the lock of its last member.
abbrev pub CompletesAsLast : List Dependency → List ℕ → ℕ → Type 0
CompletesAsLast ds path next =
    (first last : Dependency) × Member ds path 0 first × (slice_get ds next ≡ Some last)
    × Contains first.held last.lock

-- The number is greater than the first one of the path.
abbrev pub AboveFirst : List ℕ → ℕ → Type 0
AboveFirst path next = (first : ℕ) → slice_get path 0 ≡ Some first → first < next

-- The number may follow the path.
pub record ContinuesPath (ds : List Dependency) (path : List ℕ) (next : ℕ) : Type 0 where
  pub known : next < length ds
  pub above : AboveFirst path next
  pub compatible : IsCompatible ds path next
  pub linked : LinksTo ds path next

-- the lock of the last member is in the held set of the first
abbrev pub CompletesCycle : List Dependency → List ℕ → Type 0
CompletesCycle ds path = (k : ℕ) (first last : Dependency) → suc k ≡ length path →
    Member ds path 0 first →
    Member ds path k last → Contains first.held last.lock

-- Exactly the dependencies above a number that hold the lock of the last member, ascending.
pub record AreNexts (ds : List Dependency) (path : List ℕ) (after : ℕ)
    (nexts : List ℕ) : Type 0 where
  pub known : (m : ℕ) → Contains nexts m → m < length ds
  pub above : (m : ℕ) → Contains nexts m → after < m
  pub linked : (m : ℕ) → Contains nexts m → LinksTo ds path m
  pub complete : (m : ℕ) → m < length ds → after < m → LinksTo ds path m → Contains nexts m
  pub ascends : IsStrictlyIncreasing nexts
