-- The threads of components.
use Rattle.std.specs.Prelude.{◌≡◌, ◌<◌, ℕ, Bool, true, List, nat_eq, slice_get, slice_index, Some}
use Rattle.std.specs.List.{Contains, IsDistinct}
use Rattle.std.specs.List.Sorted.{IsNonDecreasing}
use Rattle.trace_model.specs.Theory.Dependencies.{Dependency}
use Rattle.cycle_search.specs.Acquirers.{key_of}
use Rattle.cycle_search.specs.declared.component_threads.ComponentThreads.{ComponentThreads}

-- No number is twice in the list.
abbrev pub AreDistinct : List ℕ → Type 0
AreDistinct numbers = IsDistinct nat_eq numbers

-- The thread is one of the component.
abbrev pub HasComponentThread : ComponentThreads → ℕ → ℕ → Type 0
HasComponentThread threads component thread =
    (thread < 4294967296) × Contains threads.keys.items (key_of component thread)

-- The thread of each cyclic dependency is one of its component; keys ascend.
pub record AreComponentThreads (ds : List Dependency) (components : List ℕ) (cyclic : List Bool)
    (threads : ComponentThreads) : Type 0 where
  pub each : (m : ℕ) (d : Dependency) → slice_get ds m ≡ Some d →
      slice_get cyclic m ≡ Some true →
      HasComponentThread threads (slice_index components m) d.thread
  pub ascends : IsNonDecreasing threads.keys.items
