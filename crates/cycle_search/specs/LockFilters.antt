-- Filters of held locks (Bloom 1970, with one hash function).
use Rattle.std.specs.Prelude.{◌≡◌, ◌%◌, ℕ, List, slice_get, Some, true}
use Rattle.std.specs.List.{Contains}
use Rattle.trace_model.specs.Theory.Dependencies.{Dependency}
use Rattle.cycle_search.specs.declared.lock_filter.LockFilter.{LockFilter}

-- The filter marks the lock: it has a mark for the lock's residue modulo 64.
abbrev pub MarksLock : LockFilter → ℕ → Type 0
MarksLock filter lock = slice_get filter.marks (lock % 64) ≡ Some true

-- The filter marks each lock that the dependency with this number holds.
abbrev pub MarksHeld : List Dependency → ℕ → LockFilter → Type 0
MarksHeld ds number filter = (d : Dependency) (lock : ℕ) → slice_get ds number ≡ Some d →
    Contains d.held lock → MarksLock filter lock
