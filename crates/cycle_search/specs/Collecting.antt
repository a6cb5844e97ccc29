-- Which results of a search a collector takes (this project's profile).
use Rattle.std.specs.Prelude.{◌≡◌, ℕ, List, [], ◌∷◌, ◌++◌, Result, MatchResult}
use Rattle.cycle_search.specs.CycleSearch.{AreSome, AreAll}

-- Which results a collector accepts, which ones it took between two states, in order, and for which
-- reason it may refuse the last of the results that it was given since a state.
pub record CollectorRules (S Item Refused : Type 0) : Type 1 where
  pub accepts : S → Item → Type 0
  pub took : S → List Item → S → Type 0
  pub refuses : S → List Item → Refused → Type 0
  pub nothing : (s : S) → took s [] s
  pub still : (s t : S) (items : List Item) (item : Item) → took s items t → accepts s item →
      accepts t item

-- The collector accepts each list with the property.
abbrev pub AcceptsAll : {S Refused : Type 0} → CollectorRules S (List ℕ) Refused →
    (List ℕ → Type 0) → S → Type 0
AcceptsAll taking P now = (numbers : List ℕ) → P numbers → taking.accepts now numbers

-- The collector takes the result, or it may refuse it.
abbrev pub Takes : {S Item Refused : Type 0} → CollectorRules S Item Refused →
    S → Item → Result (Unit {0}) Refused → S → Type 0
Takes {S} {Item} taking old item result new =
    (start : S) (before : List Item) → taking.took start before old → MatchResult result
    (λ _. taking.took start (before ++ item ∷ []) new)
    (λ refused. taking.refuses start (before ++ item ∷ []) refused)

-- All of the lists with the property are appended to a list.
abbrev pub CollectsAll : (List ℕ → Type 0) → List (List ℕ) → List (List ℕ) → Type 0
CollectsAll P old new = (more : List (List ℕ)) × (new ≡ old ++ more) × AreAll P more

-- Some of the lists with the property are appended to a list.
abbrev pub AddsSome : (List ℕ → Type 0) → List (List ℕ) → List (List ℕ) → Type 0
AddsSome P old new = (more : List (List ℕ)) × (new ≡ old ++ more) × AreSome P more

-- The collector took all of the lists with the property, in lexicographic order.
abbrev pub TookAll : {S Refused : Type 0} → CollectorRules S (List ℕ) Refused → (List ℕ → Type 0) →
    S → List (List ℕ) → S → Type 0
TookAll taking P start before new =
    (after : List (List ℕ)) × CollectsAll P before after × taking.took start after new

-- The collector took some of the lists with the property, and it may refuse the last one.
abbrev pub CollectorRefuses : {S Refused : Type 0} → CollectorRules S (List ℕ) Refused →
    (List ℕ → Type 0) →
    S → List (List ℕ) → Refused → Type 0
CollectorRefuses taking P start before refused =
    (after : List (List ℕ)) × AddsSome P before after × taking.refuses start after refused

-- Between two states, the collector took all of the lists with the property.
abbrev pub TakesSoFar : {S Refused : Type 0} → CollectorRules S (List ℕ) Refused →
    (List ℕ → Type 0) →
    S → S → Type 0
TakesSoFar {S} taking P old new = (start : S) (before : List (List ℕ)) →
    taking.took start before old → TookAll taking P start before new

-- The collector takes all of the lists with the property, in lexicographic order, or it may refuse
-- the last of some of them.
abbrev pub TakesAll : {S Refused : Type 0} → CollectorRules S (List ℕ) Refused → (List ℕ → Type 0) →
    S → Result (Unit {0}) Refused → S → Type 0
TakesAll {S} taking P old result new = (start : S) (before : List (List ℕ)) →
    taking.took start before old → MatchResult result
    (λ _. TookAll taking P start before new) (CollectorRefuses taking P start before)
