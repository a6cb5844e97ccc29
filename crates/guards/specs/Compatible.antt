-- Which dependencies may be members of one cycle (Bensalem and Havelund 2005).
use Rattle.std.specs.Prelude.{◌≡◌, ◌≢◌, ℕ, List, slice_get, Some}
use Rattle.std.specs.List.{All}
use Rattle.trace_model.specs.Theory.Dependencies.{Dependency}
use Rattle.held_sets.specs.Tables.{AreDisjoint}

-- Two dependencies of distinct threads whose held sets are disjoint.
abbrev pub AreApart : Dependency → Dependency → Type 0
AreApart a b = (a.thread ≢ b.thread) × AreDisjoint a.held b.held

-- The same for two dependencies, given by their numbers.
abbrev pub NumbersApart : List Dependency → ℕ → ℕ → Type 0
NumbersApart ds m n = (a b : Dependency) → slice_get ds m ≡ Some a → slice_get ds n ≡ Some b →
    AreApart a b

-- The dependency `number` is apart from each member.
abbrev pub IsCompatible : List Dependency → List ℕ → ℕ → Type 0
IsCompatible ds members number = All (λ m. NumbersApart ds m number) members
