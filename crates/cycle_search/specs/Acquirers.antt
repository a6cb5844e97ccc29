-- Which dependencies acquire which lock, and the least of some numbers.
use Rattle.std.specs.Prelude.{◌≡◌, ◌<◌, ◌≤◌, ◌+◌, ◌*◌, ◌↔◌, ℕ, min, List, slice_get, slice_index, Option, Some, None}
use Rattle.std.specs.List.{Contains}
use Rattle.std.specs.List.Sorted.{IsNonDecreasing}
use Rattle.trace_model.specs.Theory.Dependencies.{Dependency}
use Rattle.cycle_search.specs.declared.acquirers.Acquirers.{Acquirers}

-- The key of a lock and a number: keys are ordered by the lock, then by the number.
abbrev pub key_of : ℕ → ℕ → ℕ
key_of lock number = lock * 4294967296 + number

-- The index has the number for the lock.
abbrev pub Acquires : Acquirers → ℕ → ℕ → Type 0
Acquires acquirers lock number =
    (number < 4294967296) × Contains acquirers.keys.items (key_of lock number)

-- The dependency with the number acquires the lock.
abbrev pub AcquiresLock : List Dependency → ℕ → ℕ → Type 0
AcquiresLock ds number lock = (d : Dependency) × (slice_get ds number ≡ Some d) × (d.lock ≡ lock)

-- For each lock exactly the dependencies that acquire it, by ascending keys.
pub record AreAcquirers (ds : List Dependency) (acquirers : Acquirers) : Type 0 where
  pub exact : (lock number : ℕ) → Acquires acquirers lock number ↔ AcquiresLock ds number lock
  pub ascends : IsNonDecreasing acquirers.keys.items

-- The index has the number for one of the first `i` locks.
abbrev pub IsListed : (ℕ → ℕ → Type 0) → List ℕ → ℕ → ℕ → Type 0
IsListed acquires locks i number = (k : ℕ) × (k < i) × acquires (slice_index locks k) number

-- The least number with the property, or `None` if no number has it.
pub record IsLeast (P : ℕ → Type 0) (found : Option ℕ) : Type 0 where
  pub sound : (n : ℕ) → found ≡ Some n → P n
  pub least : (m : ℕ) → P m → (n : ℕ) × (found ≡ Some n) × (n ≤ m)

-- The least number above a bound with the property.
abbrev pub IsLeastAbove : ℕ → (ℕ → Type 0) → Option ℕ → Type 0
IsLeastAbove bound P found = IsLeast (λ m. (bound < m) × P m) found

-- The lesser of two optional numbers.
abbrev pub least_of : Option ℕ → Option ℕ → Option ℕ
least_of (Some a) (Some b) = Some (min a b)
least_of (Some a) None = Some a
least_of None other = other
