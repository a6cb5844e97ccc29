-- The verdict on a refutation: the first step that is wrong, and why.
use Rattle.std.specs.Prelude.{◌≡◌, ℕ, suc, ◌<◌, ◌≤◌, ◌↔◌, ◌⊎◌, Bool, true, List, [], ◌∷◌, length, take, slice_get, slice_set, Option, Some, None, MatchOption}
use Rattle.std.specs.List.{Contains}
use Rattle.trace_model.specs.declared.refutations.Derived.{Derived}
use Rattle.trace_model.specs.declared.refutations.RefutationStep.{RefutationStep}
use Rattle.trace_model.specs.Theory.Trace.{Trace}
use Rattle.trace_model.specs.Theory.Lawful.{IsWellFormed}
use Rattle.trace_model.specs.Theory.Dependencies.{dependencies}
use Rattle.trace_model.specs.Theory.Refutation.{Justifies, derived_places, IsDerivation, EndsAt, AreFirstPlaces, Derives, IsNextPlace}
use Rattle.replay.specs.declared.facts.Facts.{Facts}
use Rattle.replay.specs.Facts.{AreFacts}
use Rattle.replay.specs.Numbers.{AreNumbersByPlace}
use Rattle.replay.specs.declared.refutation_verdict.RefutationFault.{RefutationFault}
use Rattle.replay.specs.declared.refutation_verdict.RefutationFault.TheVariants.{NoSuchMember, Unjustified, NotDerived}
use Rattle.replay.specs.declared.refutation_verdict.RefutationVerdict.{RefutationVerdict}
use Rattle.replay.specs.declared.refutation_verdict.RefutationVerdict.TheVariants.{Valid, UnknownNumber, WrongStep, AfterEnd, PlaceLeft}

-- The trace is well-formed, and the tables are its facts and its numbers of dependencies.
pub record AreRefutationTables (s : Trace) (facts : Facts) (numbers : List
    (Option ℕ)) : Type 0 where
  pub lawful : IsWellFormed s
  pub facts_are : AreFacts s facts
  pub numbers_are : AreNumbersByPlace s numbers
  pub sized : length numbers ≡ length s

-- The entry is the first of the derivation whose reason does not hold.
abbrev pub IsUnjustified : Trace → List ℕ → List Derived → Derived → Type 0
IsUnjustified s places entries d = (k : ℕ) × (slice_get entries k ≡ Some d)
    × IsDerivation s places (take k entries)
    × (Justifies s places (derived_places (take k entries)) d.reason d.place → ⊥)

-- The first test of the step that fails.
abbrev pub IsFault : Trace → List ℕ → RefutationStep → RefutationFault → Type 0
IsFault s places step NoSuchMember = slice_get places step.member ≡ None
IsFault s places step (Unjustified d) =
    (present : ℕ) × (slice_get places step.member ≡ Some present)
    × IsUnjustified s places step.derivation d
IsFault s places step (NotDerived p) =
    (slice_get places step.member ≡ Some p) × IsDerivation s places step.derivation
    × (EndsAt step.derivation p → ⊥)

-- The verdict if a member has no next place: no step may follow.
abbrev pub IsEndVerdict : List RefutationStep → ℕ → RefutationVerdict → Type 0
IsEndVerdict [] k v = v ≡ Valid
IsEndVerdict (step ∷ steps) k v = v ≡ AfterEnd k

-- The verdict on the steps from number k on, at these present places of the members.
abbrev pub IsVerdictFrom : Trace → List ℕ → List ℕ → List RefutationStep → ℕ → RefutationVerdict →
    Type 0
IsVerdictFrom s numbers places [] k v = v ≡ PlaceLeft
IsVerdictFrom s numbers places (step ∷ steps) k v =
    ((fault : RefutationFault) × IsFault s places step fault × (v ≡ WrongStep k fault))
    ⊎ ((next : Option ℕ) × Derives s places step × IsNextPlace s numbers places step.member next
    × MatchOption next (IsEndVerdict steps (suc k) v)
    (λ q. IsVerdictFrom s numbers (slice_set places step.member q) steps (suc k) v))

-- The first of the numbers that is not that of a dependency.
abbrev pub IsFirstUnknown : Trace → List ℕ → ℕ → Type 0
IsFirstUnknown s numbers m = (i : ℕ) × (slice_get numbers i ≡ Some m)
    × (length (dependencies s) ≤ m)
    × ((j n : ℕ) → j < i → slice_get numbers j ≡ Some n → n < length (dependencies s))

-- The verdict on a refutation of a cycle.
abbrev pub IsRefutationVerdict : Trace → List ℕ → List RefutationStep → RefutationVerdict → Type 0
IsRefutationVerdict s numbers steps v =
    ((m : ℕ) × IsFirstUnknown s numbers m × (v ≡ UnknownNumber m))
    ⊎ ((places : List ℕ) × AreFirstPlaces s numbers places
    × IsVerdictFrom s numbers places steps 0 v)

-- Exactly the places of the list are marked.
abbrev pub AreMarksOf : List Bool → List ℕ → Type 0
AreMarksOf marks derived = (p : ℕ) → (slice_get marks p ≡ Some true) ↔ Contains derived p

-- No place is marked.
abbrev pub IsUnmarked : List Bool → Type 0
IsUnmarked marks = (p : ℕ) → slice_get marks p ≡ Some true → ⊥
