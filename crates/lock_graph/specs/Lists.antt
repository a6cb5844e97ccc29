-- Lists of numbers by lock.
use Rattle.std.specs.Prelude.{◌≡◌, ℕ, ◌<◌, List, [], ◌∷◌, ◌++◌, nat_eq, IsSomeAnd, length, slice_index, if◌then◌else◌}
use Rattle.std.specs.Option.{option_map_or}
use Rattle.trace_model.specs.Theory.Held.{has}
use Rattle.std.specs.HashMap.{get, HashMap}
use Rattle.smallvec.specs.SmallVec.{SmallVec, HasRoomFor}

-- The numbers of the lock. A lock without an entry has none.
abbrev pub lock_numbers : {S : Type 0} → HashMap ℕ (SmallVec ℕ) S → ℕ → List ℕ
lock_numbers m lock = option_map_or (λ v. v.items) (get nat_eq m lock) []

-- The list of the lock has spare capacity.
abbrev pub HasRoomAt : {S : Type 0} → HashMap ℕ (SmallVec ℕ) S → ℕ → Type 0
HasRoomAt m lock = IsSomeAnd (get nat_eq m lock) (λ v. HasRoomFor v 1)

-- The list of each of the locks has spare capacity.
abbrev pub HaveListRoom : {S : Type 0} → HashMap ℕ (SmallVec ℕ) S → List ℕ → Type 0
HaveListRoom m locks = (k : ℕ) → k < length locks → HasRoomAt m (slice_index locks k)

-- The numbers of the lock after `number` was added at each of the locks.
abbrev pub listed_with : List ℕ → ℕ → ℕ → List ℕ → List ℕ
listed_with locks number lock numbers = if has lock locks then numbers ++ number ∷ [] else numbers

-- The lists have the numbers before, and the number at each of the locks.
abbrev pub AreListedWith : {S : Type 0} → HashMap ℕ (SmallVec ℕ) S → List ℕ → ℕ → (ℕ → List ℕ) → Type 0
AreListedWith m locks number before = (other : ℕ) →
    lock_numbers m other ≡ listed_with locks number other (before other)
