-- Components of dependencies, and the index of acquirers.
use Rattle.std.specs.Prelude.{◌≡◌, ◌≤◌, ℕ, true, List, length, map, slice_get, slice_index, Some}
use Rattle.std.specs.List.{Contains}
use Rattle.trace_model.specs.Theory.Dependencies.{Dependency}
use Rattle.cycle_search.specs.declared.components.Components.{Components}
use Rattle.cycle_search.specs.LockNumbers.{AreLockNumbers}
use Rattle.cycle_search.specs.Acquirers.{AreAcquirers}
use Rattle.cycle_search.specs.ComponentThreads.{AreComponentThreads}

-- A component number for each dependency, which does not decrease from a dependency to one that
-- holds its lock, and is less unless that one is cyclic; the lock of each dependency; the threads
-- of the cyclic ones of each component; and for each lock the dependencies that acquire it.
pub record AreComponents (ds : List Dependency) (components : Components) : Type 0 where
  pub each : length components.numbers.items ≡ length ds
  pub ascend : (m n : ℕ) (a b : Dependency) → slice_get ds m ≡ Some a → slice_get ds n ≡ Some b →
      Contains b.held a.lock →
      slice_index components.numbers.items m ≤ slice_index components.numbers.items n
  pub marked : length components.cyclic.items ≡ length ds
  pub cyclic : (m n : ℕ) (a b : Dependency) → slice_get ds m ≡ Some a → slice_get ds n ≡ Some b →
      Contains b.held a.lock →
      slice_index components.numbers.items m ≡ slice_index components.numbers.items n →
      slice_get components.cyclic.items n ≡ Some true
  pub locked : components.locks.locks.items ≡ map (λ d. d.lock) ds
  pub numbered : AreLockNumbers ds components.locks.positions.items
  pub acquirers : AreAcquirers ds components.acquirers
  pub threads : AreComponentThreads ds components.numbers.items components.cyclic.items
      components.threads
