-- The cycles that were kept after a search.
use Rattle.std.proofs.Common.{◌≡◌, ℕ, ◌<◌, List, [], ◌++◌, Result, Ok, Err, length, refl, sym, ap, ◌∙◌, subst}
use Rattle.trace_model.specs.Theory.Cycles.{AreCyclesFrom}
use Rattle.trace_model.specs.Theory.Dependencies.{Dependency}
use Rattle.cycle_search.specs.declared.kept.Kept.{Kept}
use Rattle.cycle_search.specs.declared.refused.SearchRefused.{SearchRefused}
use Rattle.cycle_search.specs.declared.refused.SearchRefused.TheVariants.{TooMany}
use Rattle.cycle_search.specs.Collecting.{TakesAll, TookAll, CollectorRefuses}
use Rattle.cycle_search.specs.Keeping.{keeps}
use Rattle.cycle_search.specs.CycleSearch.{AreAll, AreSome, CycleFrom, MoreThan}
use Rattle.cycle_search.proofs.Turns.{cycles-from, more-from}

module _ (ds : List Dependency) (bound root : ℕ) (old new : Kept) (answer : Result (Unit {0}) SearchRefused)
    (none : old.cycles.items ≡ []) (takes : TakesAll keeps (CycleFrom ds bound root) old answer new) where
  pub kept-all : (done : Unit {0}) → answer ≡ Ok done → AreCyclesFrom ds bound root new.cycles.items
  kept-all done is =
      let (after, all, took) = (subst (λ r. TakesAll keeps (CycleFrom ds bound root) old r new) is takes) old [] (keeps.nothing old) in
      subst (AreCyclesFrom ds bound root) (sym (took.1 ∙ ap (λ z. z ++ after) none)) (cycles-from ds bound root after all)

  pub kept-most : (done : Unit {0}) → answer ≡ Ok done → new.most ≡ old.most
  kept-most done is =
      let (after, all, took) = (subst (λ r. TakesAll keeps (CycleFrom ds bound root) old r new) is takes) old [] (keeps.nothing old) in
      took.0

  pub kept-too_many : answer ≡ Err TooMany → MoreThan (CycleFrom ds bound root) old.most
  kept-too_many is =
      let (after, some, refuses) = (subst (λ r. TakesAll keeps (CycleFrom ds bound root) old r new) is takes) old [] (keeps.nothing old) in
      more-from ds bound root old.most after some (subst (λ z. old.most < length (z ++ after)) none (refuses refl))

-- What the collector keeps after it took more cycles.
pub kept-more : (P : List ℕ → Type 0) (old new : Kept) → ((start : Kept) (before : List (List ℕ)) → keeps.took start before old → TookAll keeps P start before new) →
    (new.most ≡ old.most) × ((more : List (List ℕ)) × (new.cycles.items ≡ old.cycles.items ++ more) × AreAll P more)
kept-more P old new takes =
    let (after, (more, e, all), took) = takes old [] (keeps.nothing old) in
    (took.0, (more, took.1 ∙ ap (λ z. old.cycles.items ++ z) e, all))

-- It refuses a cycle as too many only at its limit.
pub refused-more : (P : List ℕ → Type 0) (old : Kept) (refused : SearchRefused) →
    ((start : Kept) (before : List (List ℕ)) → keeps.took start before old → CollectorRefuses keeps P start before refused) → refused ≡ TooMany →
    (more : List (List ℕ)) × AreSome P more × (old.most < length (old.cycles.items ++ more))
refused-more P old refused refuses is =
    let (after, (more, e, some), full) = refuses old [] (keeps.nothing old) in
    (more, some, subst (λ z. old.most < length (old.cycles.items ++ z)) e (full is))
