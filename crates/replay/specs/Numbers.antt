-- The numbers of the dependencies of places.
use Rattle.std.specs.Prelude.{◌≡◌, ℕ, ◌<◌, ◌≤◌, ◌↔◌, List, slice_get, Option, Some, MatchOption}
use Rattle.trace_model.specs.Theory.Trace.{Trace}
use Rattle.trace_model.specs.Theory.Dependencies.{dependencies}
use Rattle.dependencies.specs.Tables.{HasNumber}

-- The list has for each place the number of its dependency, or none.
abbrev pub AreNumbersByPlace : Trace → List (Option ℕ) → Type 0
AreNumbersByPlace s numbers = (p m : ℕ) →
    (slice_get numbers p ≡ Some (Some m)) ↔ HasNumber s (dependencies s) p m

-- The first place from n on that has number m in the list, or none.
abbrev pub IsFirstWith : List (Option ℕ) → ℕ → ℕ → Option ℕ → Type 0
IsFirstWith numbers m n first = MatchOption first
    ((u : ℕ) → n ≤ u → slice_get numbers u ≡ Some (Some m) → ⊥)
    (λ p. (n ≤ p) × (slice_get numbers p ≡ Some (Some m))
    × ((u : ℕ) → n ≤ u → u < p → slice_get numbers u ≡ Some (Some m) → ⊥))
