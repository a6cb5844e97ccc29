-- The lock graph as a reverse index: the dependencies that hold each lock (Havelund 2000).
use Rattle.std.specs.Prelude.{◌≡◌, ℕ, ◌↔◌, List, [], length, slice_get, nat_lt, Some, Contains}
use Rattle.std.specs.List.{filter}
use Rattle.std.specs.Option.{option_map_or}
use Rattle.std.specs.List.Sorted.{IsStrictlyIncreasing}
use Rattle.trace_model.specs.Theory.Dependencies.{Dependency}
use Rattle.lock_graph.specs.declared.graph.LockGraph.{LockGraph}
use Rattle.lock_graph.specs.Lists.{lock_numbers, HaveListRoom}

-- The numbers that the graph has for the lock.
abbrev pub holders : LockGraph → ℕ → List ℕ
holders g lock = lock_numbers g.lists lock

-- Memory is reserved for one more number at each of the locks.
abbrev pub HasGraphRoom : LockGraph → List ℕ → Type 0
HasGraphRoom g locks = HaveListRoom g.lists locks

-- The dependency with this number holds the lock.
abbrev pub HoldsLock : List Dependency → ℕ → ℕ → Type 0
HoldsLock ds number lock = (d : Dependency) × (slice_get ds number ≡ Some d) × Contains d.held lock

-- For each lock the graph has exactly the numbers of the dependencies that hold it, ascending.
pub record IsGraphOf (ds : List Dependency) (graph : ℕ → List ℕ) : Type 0 where
  pub exact : (lock number : ℕ) → Contains (graph lock) number ↔ HoldsLock ds number lock
  pub ascends : (lock : ℕ) → IsStrictlyIncreasing (graph lock)

-- The numbers below `total` that the graph has for the lock.
abbrev pub holders_below : LockGraph → ℕ → ℕ → List ℕ
holders_below g total lock = filter (λ n. nat_lt n total) (holders g lock)

-- The numbers below `total` that the graph has for the lock at the position.
abbrev pub holders_at : LockGraph → ℕ → ℕ → List ℕ
holders_at g total position = filter (λ n. nat_lt n total)
    (option_map_or (λ e. e.1.items) (slice_get g.lists.entries position) [])

-- The graph is that of these dependencies, or of a list of which these are a prefix.
pub record HasGraphOf (ds : List Dependency) (g : LockGraph) : Type 0 where
  pub below : IsGraphOf ds (holders_below g (length ds))
  pub ascends : (lock : ℕ) → IsStrictlyIncreasing (holders g lock)
