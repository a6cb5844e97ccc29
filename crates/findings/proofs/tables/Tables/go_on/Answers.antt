use Rattle.std.proofs.Common.{◌≡◌, ◌≤◌, ℕ, [], length, List, Option, Some, sym, ap, subst, ◌∙◌, arith}
use Rattle.std.specs.Option.{option_map_or}
use Rattle.std.proofs.lemmas.Result.{IfOk-weaker}
use Rattle.trace_model.specs.declared.limits.TheConstants.{MAX_CYCLES}
use Rattle.trace_model.specs.Theory.Cycles.{AreCyclesFrom, ListBelow}
use Rattle.trace_model.specs.Theory.Dependencies.{Dependency, dependencies}
use Rattle.cycle_search.specs.CycleSearch.{CycleFrom, MoreThan}
use Rattle.cycle_search.specs.Pausing.{GoesOnTo, IsSearchOf, position_of}
use Rattle.cycle_search.specs.declared.paused.PausedSearch.{PausedSearch}
use Rattle.findings.specs.TaskSearches.{task_position}
use Rattle.findings.proofs.Members.{none_from}
use Rattle.findings.proofs.TaskSearches.{above_none, searched_from}
use Rattle.findings.proofs.tables.Tables.go_on.Goals as goal
use Rattle.findings.proofs.tables.Tables.go_on.Goals.{in-Some-search, in-None+in_ok-begun-in-None}

pub returns-in_default-clause-searched : goal.returns-in_default-clause-searched
returns-in_default-clause-searched c =
    let ds = dependencies c.args.snapshot.now in (
      subst (AreCyclesFrom ds c.args.bound c.args.search.task) (sym c.new.ensures.items) (none_from ds c.args.bound c.args.search.task c.in_default.ensures),
      subst (λ (xs : List (List ℕ)). length xs ≤ MAX_CYCLES) (sym c.new.ensures.items) (omega arith),
    )

pub go_on-requires : goal.go_on-requires
go_on-requires c =
    let s = c.args.snapshot.now in
    let bound = c.args.bound in
    let search = c.args.search in
    let begun = c.match-search-2.begun in
    let same = c.in-Some.ensures.0 in
    let is : IsSearchOf (dependencies s) bound search.task begun = elim c.match-search-2.branch [
      | in-Some-search w ↦ c.requires.search begun (w.in-Some-search.is ∙ ap (λ (x : PausedSearch). Some x) (sym w.begun-is))
      | in-None+in_ok-begun-in-None w ↦
          let new = w.in_ok-begun-in-None in
          subst (IsSearchOf (dependencies s) bound search.task) (sym w.begun-is)
          (subst (λ (ds : List Dependency). IsSearchOf ds bound search.task new.begun) same new.ensures.search)
    ] in
    record {
      search = subst (λ (ds : List Dependency). IsSearchOf ds begun.bound begun.root begun) (sym same)
          (subst (λ root. IsSearchOf (dependencies s) begun.bound root begun) (sym is.root_is)
          (subst (λ b. IsSearchOf (dependencies s) b search.task begun) (sym is.bound_is) is));
    }

pub returns-clause-too_many : goal.returns-clause-too_many
returns-clause-too_many c e =
    let s = c.args.snapshot.now in
    let bound = c.args.bound in
    let search = c.args.search in
    let begun = c.match-search-2.begun in
    let same = c.in-Some.ensures.0 in
    let is : IsSearchOf (dependencies s) bound search.task begun = elim c.match-search-2.branch [
      | in-Some-search w ↦ c.requires.search begun (w.in-Some-search.is ∙ ap (λ (x : PausedSearch). Some x) (sym w.begun-is))
      | in-None+in_ok-begun-in-None w ↦
          let new = w.in_ok-begun-in-None in
          subst (IsSearchOf (dependencies s) bound search.task) (sym w.begun-is)
          (subst (λ (ds : List Dependency). IsSearchOf ds bound search.task new.begun) same new.ensures.search)
    ] in
    subst (λ root. MoreThan (CycleFrom (dependencies s) bound root) MAX_CYCLES) is.root_is
    (subst (λ b. MoreThan (CycleFrom (dependencies s) b begun.root) MAX_CYCLES) is.bound_is
    (subst (λ (ds : List Dependency). MoreThan (CycleFrom ds begun.bound begun.root) MAX_CYCLES) same (c.go_on.ensures.too_many e)))

pub returns-clause-searched : goal.returns-clause-searched
returns-clause-searched c =
    let s = c.args.snapshot.now in
    let bound = c.args.bound in
    let visits = c.args.visits in
    let search = c.args.search in
    let begun = c.match-search-2.begun in
    let same = c.in-Some.ensures.0 in
    let facts : IsSearchOf (dependencies s) bound search.task begun × ((later : List ℕ) → ListBelow (position_of begun) later → ListBelow (task_position search) later) =
    elim c.match-search-2.branch [
      | in-Some-search w ↦
          let is : search.search ≡ Some begun = w.in-Some-search.is ∙ ap (λ (x : PausedSearch). Some x) (sym w.begun-is) in
          (c.requires.search begun is, λ later h. subst (λ (o : Option PausedSearch). ListBelow (option_map_or position_of o []) later) (sym is) h)
      | in-None+in_ok-begun-in-None w ↦
          let new = w.in_ok-begun-in-None in (
            subst (IsSearchOf (dependencies s) bound search.task) (sym w.begun-is)
                (subst (λ (ds : List Dependency). IsSearchOf ds bound search.task new.begun) same new.ensures.search),
            λ later h. subst (λ (o : Option PausedSearch). ListBelow (option_map_or position_of o []) later) (sym w.in-None.is)
                (above_none (position_of begun) later h),
          )
    ] in
    IfOk-weaker c.go_on.result _ _ (λ searched h. searched_from s bound visits search begun searched facts.0 facts.1 (subst (λ (ds : List Dependency). GoesOnTo ds begun visits searched) same h)) c.go_on.ensures.searched
