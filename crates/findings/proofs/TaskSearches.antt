-- The search of a task, after it was continued.
use Rattle.std.proofs.Common.{◌≡◌, ℕ, List, [], ◌∷◌, refl, subst}
use Rattle.trace_model.specs.Theory.Trace.{Trace}
use Rattle.trace_model.specs.Theory.Cycles.{AreCyclesFrom, ListBelow}
use Rattle.trace_model.specs.Theory.Dependencies.{dependencies}
use Rattle.cycle_search.specs.Pausing.{GoesOnTo, IsSearchOf, position_of}
use Rattle.cycle_search.specs.declared.paused.PausedSearch.{PausedSearch}
use Rattle.cycle_search.specs.declared.paused.Searched.{Searched}
use Rattle.cycle_search.specs.declared.paused.Searched.TheVariants.{All, Paused}
use Rattle.findings.specs.TaskSearches.{AreSearchedCycles, task_position}
use Rattle.findings.specs.declared.task_search.TaskSearch.{TaskSearch}

-- What is above a list is above the empty one.
pub above_none : (xs ys : List ℕ) → ListBelow xs ys → ListBelow [] ys
above_none [] ys h = h
above_none (x ∷ xs) [] h = h
above_none (x ∷ xs) (y ∷ ys) h = tt

-- A search is begun, or continued from where it was paused.
pub searched_from : (s : Trace) (bound visits : ℕ) (search : TaskSearch) (begun : PausedSearch) (searched : Searched) →
    IsSearchOf (dependencies s) bound search.task begun →
    ((later : List ℕ) → ListBelow (position_of begun) later → ListBelow (task_position search) later) →
    GoesOnTo (dependencies s) begun visits searched → AreSearchedCycles s bound visits search searched
searched_from s bound visits search begun (All cycles) is from (all, few) = (
  subst (λ root. AreCyclesFrom (dependencies s) bound root cycles.items) is.root_is
      (subst (λ b. AreCyclesFrom (dependencies s) b begun.root cycles.items) is.bound_is all),
  few,
)
searched_from s bound visits search begun (Paused later) is from (searches, is_later) = record {
  same_task = refl;
  searches = λ x e.
      let same : later ≡ x = cc in
      subst (IsSearchOf (dependencies s) bound search.task) same
      (subst (λ root. IsSearchOf (dependencies s) bound root later) is.root_is
      (subst (λ b. IsSearchOf (dependencies s) b begun.root later) is.bound_is searches));
  is_later = λ l. from (position_of later) (is_later l);
}
