-- Searches that end before they have all cycles (this project's profile).
use Rattle.std.specs.Prelude.{◌≡◌, ◌<◌, ◌≤◌, ℕ, suc, List, [], ◌∷◌, ◌++◌, length, slice_get, slice_index, Some, Result, Ok, Err, MatchResult}
use Rattle.arrayvec.specs.ArrayVec.{ArrayVec}
use Rattle.trace_model.specs.declared.limits.TheConstants.{MAX_CYCLES}
use Rattle.trace_model.specs.Theory.Dependencies.{Dependency}
use Rattle.trace_model.specs.Theory.Cycles.{AreCyclesFrom, ListBelow}
use Rattle.cycle_search.specs.Collecting.{CollectorRules, TookAll, CollectorRefuses}
use Rattle.cycle_search.specs.CycleSearch.{AreAll, CycleFrom, IsPath}
use Rattle.cycle_search.specs.Distances.{AreDistances}
use Rattle.cycle_search.specs.declared.pace.Halt.{Halt}
use Rattle.cycle_search.specs.declared.pace.Halt.TheVariants.{Refused, Paused}
use Rattle.cycle_search.specs.declared.search.CycleSearch.{CycleSearch}
use Rattle.cycle_search.specs.declared.paused.PausedSearch.{PausedSearch}
use Rattle.cycle_search.specs.declared.paused.Searched.{Searched}
use Rattle.cycle_search.specs.declared.paused.Searched.TheVariants as searched

-- A list with the property that is before another one in lexicographic order.
abbrev pub IsListBefore : (List ℕ → Type 0) → List ℕ → List ℕ → Type 0
IsListBefore P position numbers = P numbers × ListBelow numbers position

-- The position of a search that has all cycles through the path and the numbers up to `last`: it
-- has the cycles that are before this list.
abbrev pub position_at : List ℕ → ℕ → List ℕ
position_at path last = path ++ suc last ∷ []

-- The fact holds of the last number if the search was paused.
abbrev pub IfPaused : {R : Type 0} → Result (Unit {0}) (Halt R) → (ℕ → Type 0) → Type 0
IfPaused (Ok done) Fact = Unit {0}
IfPaused (Err (Refused refused)) Fact = Unit {0}
IfPaused (Err (Paused last)) Fact = Fact last

-- The collector took all of the lists with the property up to the position of a paused search, or
-- it may refuse the last of some of them.
abbrev pub TookUntil : {S R : Type 0} → CollectorRules S (List ℕ) R → (List ℕ → Type 0) →
    S → List (List ℕ) → List ℕ → S → Halt R → Type 0
TookUntil taking P start before path new (Refused refused) =
    CollectorRefuses taking P start before refused
TookUntil taking P start before path new (Paused last) =
    TookAll taking (IsListBefore P (position_at path last)) start before new

-- The collector takes the lists with the property in lexicographic order: all of them, or those
-- until the search ends.
abbrev pub TakesUntil : {S R : Type 0} → CollectorRules S (List ℕ) R → (List ℕ → Type 0) →
    S → Result (Unit {0}) (Halt R) → List ℕ → S → Type 0
TakesUntil {S} taking P old result path new = (start : S) (before : List (List ℕ)) →
    taking.took start before old → MatchResult result
    (λ _. TookAll taking P start before new) (TookUntil taking P start before path new)

-- The search can be continued with the path and a number above `last`.
pub record CanContinue (search : CycleSearch) (numbers : List ℕ) (last : ℕ) : Type 0 where
  pub path : IsPath search.search_input.now numbers
  pub room : length numbers < search.members
  pub above : slice_index numbers 0 ≤ last

-- The search was paused at the number after the path, or at a longer path through it.
abbrev pub PausesAt : CycleSearch → ArrayVec ℕ → ℕ → ArrayVec ℕ → ℕ → Type 0
PausesAt search path next new last = CanContinue search new.items last
    × ((rest : List ℕ) × (position_at new.items last ≡ path.items ++ next ∷ rest))

-- The search was paused at a number above `after` that follows the path, or at a longer path.
abbrev pub PausesAfter : CycleSearch → ArrayVec ℕ → ℕ → ArrayVec ℕ → ℕ → Type 0
PausesAfter search path after new last =
    (next : ℕ) × (after < next) × PausesAt search path next new last

-- A cycle of the search from the path's first number that is not before its position.
abbrev pub SearchedFrom : CycleSearch → ArrayVec ℕ → ℕ → List ℕ → Type 0
SearchedFrom search path last numbers =
    CycleFrom search.search_input.now search.members (slice_index path.items 0) numbers
    × (ListBelow numbers (position_at path.items last) → ⊥)

-- What is left of a search: the cycles that are not before this list.
abbrev pub position_of : PausedSearch → List ℕ
position_of search = position_at search.path.items search.last

-- The tables of a search, and the path with which it can be continued.
pub record CanSearch (ds : List Dependency) (search : PausedSearch) : Type 0 where
  pub begins : slice_get search.path.items 0 ≡ Some search.root
  pub path : IsPath ds search.path.items
  pub room : length search.path.items < search.members
  pub above : slice_index search.path.items 0 ≤ search.last
  pub distances : AreDistances ds search.root search.distances.items

-- A search for the cycles of the root up to the bound. It has those that are before its position.
pub record IsSearchOf (ds : List Dependency) (bound root : ℕ) (search : PausedSearch) : Type 0 where
  pub bound_is : search.bound ≡ bound
  pub root_is : search.root ≡ root
  pub most : search.kept.most ≡ MAX_CYCLES
  pub found : AreAll (IsListBefore (CycleFrom ds bound root) (position_of search))
      search.kept.cycles.items
  pub within : search.members ≤ bound
  pub eight : search.members ≤ 8
  pub all : (numbers : List ℕ) → CycleFrom ds bound root numbers → length numbers ≤ search.members
  pub can : 2 ≤ search.members → CanSearch ds search

-- The search found all cycles of its root; or it is paused, and if it could visit a member, it is
-- paused later than before.
abbrev pub GoesOnTo : List Dependency → PausedSearch → ℕ → Searched → Type 0
GoesOnTo ds search visits (searched.All cycles) =
    AreCyclesFrom ds search.bound search.root cycles.items × (length cycles.items ≤ MAX_CYCLES)
GoesOnTo ds search visits (searched.Paused later) =
    IsSearchOf ds search.bound search.root later
    × (0 < visits → ListBelow (position_of search) (position_of later))
