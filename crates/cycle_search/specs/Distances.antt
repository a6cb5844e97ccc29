-- How many members must come after a dependency in a cycle of the root.
use Rattle.std.specs.Prelude.{◌≡◌, ◌≤◌, ℕ, suc, List, slice_get, slice_index, Some}
use Rattle.std.specs.List.{Contains}
use Rattle.trace_model.specs.Theory.Dependencies.{Dependency}

-- The distance is 0 for each dependency that acquires a lock of the root.
abbrev pub AreZeroAtRoot : List Dependency → ℕ → List ℕ → Type 0
AreZeroAtRoot ds root distances = (m : ℕ) (a d : Dependency) → slice_get ds m ≡ Some a →
    slice_get ds root ≡ Some d → Contains d.held a.lock → slice_index distances m ≡ 0

-- Distances of dependencies: 0 if the root holds the acquired lock, and if a dependency from the
-- root on holds it, at most one more than the distance of that dependency.
pub record AreDistances (ds : List Dependency) (root : ℕ) (distances : List ℕ) : Type 0 where
  pub home : AreZeroAtRoot ds root distances
  pub along : (m n : ℕ) (a b : Dependency) → root ≤ n → slice_get ds m ≡ Some a →
      slice_get ds n ≡ Some b → Contains b.held a.lock →
      slice_index distances m ≤ suc (slice_index distances n)
