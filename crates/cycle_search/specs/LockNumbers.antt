-- Positions of the locks that the dependencies acquire.
use Rattle.std.specs.Prelude.{◌≡◌, ℕ, List, slice_get, Some}
use Rattle.std.specs.List.{Contains}
use Rattle.trace_model.specs.Theory.Dependencies.{Dependency}

-- The position 4,294,967,295 stands for a lock that none of the dependencies holds.
abbrev pub AreLockNumbers : List Dependency → List ℕ → Type 0
AreLockNumbers ds positions = (m n : ℕ) (a b : Dependency) →
    slice_get positions m ≡ Some 4294967295 →
    slice_get ds m ≡ Some a → slice_get ds n ≡ Some b → Contains b.held a.lock → ⊥
