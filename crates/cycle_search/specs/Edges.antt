-- Numbers along the edges of dependencies: from each one to those that hold the lock that it
-- acquires.
use Rattle.std.specs.Prelude.{◌≡◌, ◌<◌, ◌≤◌, ◌+◌, ◌↔◌, ℕ, Bool, true, List, length, slice_get, slice_index, Some}
use Rattle.std.specs.List.{Contains}
use Rattle.std.specs.List.Sorted.{IsStrictlyIncreasing}
use Rattle.trace_model.specs.Theory.Dependencies.{Dependency}
use Rattle.lock_graph.specs.Graph.{HoldsLock}

-- Exactly the dependencies that hold the lock which this one acquires, ascending.
pub record AreHolders (ds : List Dependency) (number : ℕ) (holders : List ℕ) : Type 0 where
  pub exact : (d : Dependency) → slice_get ds number ≡ Some d → (m : ℕ) →
      Contains holders m ↔ HoldsLock ds m d.lock
  pub ascends : IsStrictlyIncreasing holders

-- An earlier dependency acquires the same lock and has the same value.
pub record IsRepeated (ds : List Dependency) (values : List ℕ) (number : ℕ) : Type 0 where
  pub first : ℕ
  pub before : first < number
  pub same_lock : (a b : Dependency) → slice_get ds first ≡ Some a → slice_get ds number ≡ Some b →
      a.lock ≡ b.lock
  pub same_value : slice_index values first ≡ slice_index values number

-- Along each edge to a dependency from `from` on, the value falls by at most `step`.
abbrev pub FallAtMost : List Dependency → List ℕ → ℕ → ℕ → Type 0
FallAtMost ds values from step = (m n : ℕ) (a b : Dependency) → from ≤ n →
    slice_get ds m ≡ Some a → slice_get ds n ≡ Some b → Contains b.held a.lock →
    slice_index values m ≤ slice_index values n + step

-- Each dependency to which one with the same value has an edge is marked.
pub record AreSuccessorsMarked (ds : List Dependency) (values : List ℕ)
    (marks : List Bool) : Type 0 where
  pub each : length marks ≡ length ds
  pub marked : (m n : ℕ) (a b : Dependency) → slice_get ds m ≡ Some a → slice_get ds n ≡ Some b →
      Contains b.held a.lock → slice_index values m ≡ slice_index values n →
      slice_get marks n ≡ Some true
