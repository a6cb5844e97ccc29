-- Refutations: why a cycle is not confirmed (this project's profile).
use Rattle.std.specs.Prelude.{◌≡◌, ℕ, suc, ◌<◌, ◌≤◌, List, [], ◌∷◌, ◌++◌, length, map, take, slice_get, slice_set, Option, Some, MatchOption}
use Rattle.std.specs.List.{Contains}
use Rattle.trace_model.specs.declared.refutations.Reason.{Reason}
use Rattle.trace_model.specs.declared.refutations.Reason.TheVariants.{BeforeMember, ThreadOrder, ForkJoin, ReadsFrom, Sections}
use Rattle.trace_model.specs.declared.refutations.Derived.{Derived}
use Rattle.trace_model.specs.declared.refutations.RefutationStep.{RefutationStep}
use Rattle.trace_model.specs.Theory.Trace.{Trace, EarlierInThread}
use Rattle.trace_model.specs.Theory.Held.{BeginsOn}
use Rattle.trace_model.specs.Theory.Lookups.{writer, release}
use Rattle.trace_model.specs.Theory.Reordering.{ForkOrJoin}
use Rattle.trace_model.specs.Theory.Dependencies.{Dependency, dependency_at, dependencies}
use Rattle.trace_model.specs.Theory.Cycles.{Member, IsCycle, IsConfirmed}
use Rattle.trace_model.specs.Theory.Closure.{InClosure}
use Rattle.trace_model.specs.Theory.Lawful.{IsWellFormed}

-- Critical sections on one lock begin at both places (this project's profile).
abbrev pub BeginOnOneLock : Trace → ℕ → ℕ → Type 0
BeginOnOneLock s a b = (l : ℕ) × BeginsOn s a l × BeginsOn s b l

-- The reason holds for place p, if the places `derived` are derived for the given places (this
-- project's profile).
abbrev pub Justifies : Trace → List ℕ → List ℕ → Reason → ℕ → Type 0
Justifies s places derived (BeforeMember q) p = Contains places q × EarlierInThread s p q
Justifies s places derived (ThreadOrder q) p = Contains derived q × EarlierInThread s p q
Justifies s places derived (ForkJoin q) p = Contains derived q × ForkOrJoin s p q
Justifies s places derived (ReadsFrom q) p = Contains derived q × (writer s q ≡ Some p)
Justifies s places derived (Sections a b) p =
    Contains derived a × Contains derived b × (a < b) × BeginOnOneLock s a b
    × (release s a ≡ Some p)

-- The places of the entries (this project's profile).
abbrev pub derived_places : List Derived → List ℕ
derived_places entries = map (λ d. d.place) entries

-- The entries are a derivation for the given places: each has a reason that names one of these
-- places or earlier entries (this project's profile).
abbrev pub IsDerivation : Trace → List ℕ → List Derived → Type 0
IsDerivation s places entries = (k : ℕ) (d : Derived) → slice_get entries k ≡ Some d →
    Justifies s places (derived_places (take k entries)) d.reason d.place

-- The first place from n on that has dependency d, or none (this project's profile).
abbrev pub IsFirstFrom : Trace → Dependency → ℕ → Option ℕ → Type 0
IsFirstFrom s d n first = MatchOption first
    ((u : ℕ) → n ≤ u → dependency_at s u ≡ Some d → ⊥)
    (λ p. (n ≤ p) × (dependency_at s p ≡ Some d)
    × ((u : ℕ) → n ≤ u → u < p → dependency_at s u ≡ Some d → ⊥))

-- The places are the first places of the dependencies of the cycle's members (this project's
-- profile).
abbrev pub AreFirstPlaces : Trace → List ℕ → List ℕ → Type 0
AreFirstPlaces s numbers places =
    (length places ≡ length numbers)
    × ((i p : ℕ) → slice_get places i ≡ Some p →
    (d : Dependency) × Member (dependencies s) numbers i d × IsFirstFrom s d 0 (Some p))

-- The last entry is about place p (this project's profile).
abbrev pub EndsAt : List Derived → ℕ → Type 0
EndsAt entries p = (before : List Derived) × (d : Derived) × (entries ≡ before ++ d ∷ [])
    × (d.place ≡ p)

-- The step derives the present place of its member, by its last entry (this project's profile).
abbrev pub Derives : Trace → List ℕ → RefutationStep → Type 0
Derives s places step =
    (p : ℕ) × (slice_get places step.member ≡ Some p)
    × IsDerivation s places step.derivation × EndsAt step.derivation p

-- The next place of the dependency of member i after its present place, or none (this project's
-- profile).
abbrev pub IsNextPlace : Trace → List ℕ → List ℕ → ℕ → Option ℕ → Type 0
IsNextPlace s numbers places i next =
    (p : ℕ) × (d : Dependency) × (slice_get places i ≡ Some p)
    × Member (dependencies s) numbers i d × IsFirstFrom s d (suc p) next

-- The steps refute the cycle from the present places of its members on: each step derives the
-- present place of its member, which then moves to its next place. The last step is the one whose
-- member has no next place (this project's profile).
abbrev pub Refutes : Trace → List ℕ → List ℕ → List RefutationStep → Type 0
Refutes s numbers places [] = ⊥
Refutes s numbers places (step ∷ steps) =
    (next : Option ℕ) × Derives s places step × IsNextPlace s numbers places step.member next
    × MatchOption next (steps ≡ [])
    (λ q. Refutes s numbers (slice_set places step.member q) steps)

-- The steps are a refutation of the cycle: they refute it from the first places on (this project's
-- profile).
abbrev pub IsRefutation : Trace → List ℕ → List RefutationStep → Type 0
IsRefutation s numbers steps =
    (places : List ℕ) × AreFirstPlaces s numbers places × Refutes s numbers places steps

-- Each place of a derivation is in the closure.
abbrev pub DerivedIsInClosure : Type 0
DerivedIsInClosure =
    (s : Trace) (places : List ℕ) (entries : List Derived) → IsDerivation s places entries →
    (p : ℕ) → Contains (derived_places entries) p → InClosure s places p

-- A cycle with a refutation is not confirmed.
abbrev pub RefutedIsNotConfirmed : Type 0
RefutedIsNotConfirmed =
    (s : Trace) (numbers : List ℕ) (steps : List RefutationStep) → IsRefutation s numbers steps →
    IsConfirmed s numbers → ⊥

-- Every cycle that is not confirmed has a refutation.
abbrev pub NotConfirmedIsRefuted : Type 0
NotConfirmedIsRefuted =
    (s : Trace) → IsWellFormed s → (bound : ℕ) (numbers : List ℕ) →
    IsCycle (dependencies s) bound numbers → (IsConfirmed s numbers → ⊥) →
    (steps : List RefutationStep) × IsRefutation s numbers steps
