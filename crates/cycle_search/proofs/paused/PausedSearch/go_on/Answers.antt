use Rattle.std.proofs.Common.{◌≡◌, ◌≤◌, ◌∙◌, List, ℕ, Some, length, get_or, refl, sym, ap, subst, arith}
use Rattle.std.proofs.lemmas.Option.{slice_get-get_or, get_or_from_slice_get}
use Rattle.trace_model.specs.declared.limits.TheConstants.{MAX_CYCLES}
use Rattle.trace_model.specs.Theory.Cycles.{AreCyclesFrom, ListBelow}
use Rattle.trace_model.specs.Theory.Dependencies.{Dependency}
use Rattle.cycle_search.specs.declared.refused.SearchRefused.TheVariants.{TooMany}
use Rattle.cycle_search.specs.declared.search.CycleSearch.{CycleSearch}
use Rattle.cycle_search.specs.CycleSearch.{AreAll, CycleFrom}
use Rattle.cycle_search.specs.Distances.{AreDistances}
use Rattle.cycle_search.specs.Keeping.{keeps}
use Rattle.cycle_search.specs.LockFilters.{MarksHeld}
use Rattle.cycle_search.specs.Pausing.{CanContinue, IsListBefore, position_at}
use Rattle.cycle_search.proofs.Collecting.{paused-last, until-paused, until-refused}
use Rattle.cycle_search.proofs.ComponentLemmas.{another-bound}
use Rattle.cycle_search.proofs.Continuing.{IsLeft, joined-all, joined-many, joined-until}
use Rattle.cycle_search.proofs.Keeping.{kept-more, refused-more}
use Rattle.cycle_search.proofs.Listing.{all-same, some-weaker}
use Rattle.cycle_search.proofs.paused.PausedSearch.go_on.Goals as goal

module _ (ds : List Dependency) (members bound root first : ℕ) (position : List ℕ) (same : first ≡ root) (within : members ≤ bound)
    (all : (numbers : List ℕ) → CycleFrom ds bound root numbers → length numbers ≤ members) where
  -- A cycle of the search is one up to the bound.
  wider : (numbers : List ℕ) → IsLeft ds members first position numbers → IsLeft ds bound root position numbers
  wider numbers (c, after) = ((another-bound ds members bound numbers c.0 (omega (arith, within, c.0.at_most)), c.1 ∙ ap Some same), after)

  narrower : (numbers : List ℕ) → IsLeft ds bound root position numbers → IsLeft ds members first position numbers
  narrower numbers (c, after) = ((another-bound ds bound members numbers c.0 (all numbers c), c.1 ∙ ap Some (sym same)), after)

  wider-all : (lists : List (List ℕ)) → AreAll (IsLeft ds members first position) lists → AreAll (IsLeft ds bound root position) lists
  wider-all lists h = all-same (IsLeft ds members first position) (IsLeft ds bound root position) lists wider narrower h

  wider-until : (until : List ℕ) (lists : List (List ℕ)) → AreAll (IsListBefore (IsLeft ds members first position) until) lists →
      AreAll (IsListBefore (IsLeft ds bound root position) until) lists
  wider-until until lists h = all-same (IsListBefore (IsLeft ds members first position) until) (IsListBefore (IsLeft ds bound root position) until) lists
      (λ n b. (wider n b.0, b.1)) (λ n b. (narrower n b.0, b.1)) h

pub extend_from-requires-clause-tables : goal.extend_from-requires-clause-tables
extend_from-requires-clause-tables c =
    let ds = c.args.search_input.now in
    let old = c.args.self in
    let can = c.requires.search.can c.if-members-lt2.false in
    let same = sym (get_or_from_slice_get old.path.items 0 old.root 0 can.begins) in
    record {
      distances = subst (λ n. AreDistances ds n c.deref.result.now) same (subst (AreDistances ds old.root) (sym c.deref.ensures.value) can.distances);
      filter = subst (λ n. MarksHeld ds n c.filter_of.result) same c.filter_of.ensures;
    }

pub returns-in-Ok-clause-searched : goal.returns-in-Ok-clause-searched
returns-in-Ok-clause-searched c =
    let ds = c.args.search_input.now in
    let old = c.args.self in
    let search = c.requires.search in
    let can = search.can c.if-members-lt2.false in
    let path = old.path.items in
    let first = get_or path 0 0 in
    let same = get_or_from_slice_get path 0 old.root 0 can.begins in
    let position = position_at path old.last in
    let new = c.extend_from.new.collector in
    let (most, (more, e, all)) = kept-more (IsLeft ds old.members first position) old.kept new c.in-Ok.ensures.all in (
      subst (AreCyclesFrom ds old.bound old.root) (sym e) (joined-all ds old.bound old.root position old.kept.cycles.items more search.found
          (wider-all ds old.members old.bound old.root first position same search.within search.all more all)),
      omega (arith, new.within, most, search.most),
    )

pub returns-in-Err-Refused-clause-too_many : goal.returns-in-Err-Refused-clause-too_many
returns-in-Err-Refused-clause-too_many c e =
    let ds = c.args.search_input.now in
    let old = c.args.self in
    let search = c.requires.search in
    let can = search.can c.if-members-lt2.false in
    let path = old.path.items in
    let first = get_or path 0 0 in
    let same = get_or_from_slice_get path 0 old.root 0 can.begins in
    let position = position_at path old.last in
    let is : c.in-Err-Refused.refused ≡ TooMany = cc in
    let (more, some, many) = refused-more (IsLeft ds old.members first position) old.kept c.in-Err-Refused.refused
    (until-refused keeps (IsLeft ds old.members first position) old.kept c.extend_from.new.collector c.extend_from.new.path.items
    c.in-Err-Refused.field-0 c.in-Err-Refused.refused c.in-Err-Refused.field-0-is c.in-Err-Refused.ensures.all) is in
    joined-many ds old.bound old.root position old.kept.cycles.items more search.found MAX_CYCLES
    (some-weaker (IsLeft ds old.members first position) (IsLeft ds old.bound old.root position) more
    (wider ds old.members old.bound old.root first position same search.within search.all) some)
    (omega (arith, many, search.most))

pub returns-in-Err-Paused-clause-searched : goal.returns-in-Err-Paused-clause-searched
returns-in-Err-Paused-clause-searched c =
    let ds = c.args.search_input.now in
    let old = c.args.self in
    let search = c.requires.search in
    let can = search.can c.if-members-lt2.false in
    let path = old.path.items in
    let first = get_or path 0 0 in
    let same = get_or_from_slice_get path 0 old.root 0 can.begins in
    let position = position_at path old.last in
    let new = c.extend_from.new.collector in
    let longer = c.extend_from.new.path.items in
    let last = c.in-Err-Paused.last in
    let given = c.in-Err-Paused.field-0 in
    let is = c.in-Err-Paused.field-0-is in
    let until = position_at longer last in
    let tables : CycleSearch = record { search_input = c.args.search_input; distances = c.deref.result; members = old.members; successors = old.successors; filter = c.filter_of.result } in
    let goes = paused-last (CanContinue tables longer) given last is c.in-Err-Paused.ensures.paused in
    let begins = paused-last (λ now. get_or longer 0 0 ≡ first) given last is c.in-Err-Paused.ensures.first in
    let kept = paused-last (λ now. ListBelow (position_at longer now) position → ⊥) given last is c.in-Err-Paused.ensures.kept in
    let later = paused-last (λ now. (c.args.visits ≡ 0 → ⊥) → ListBelow position (position_at longer now)) given last is c.in-Err-Paused.ensures.later in
    let (most, (more, e, all)) = kept-more (IsListBefore (IsLeft ds old.members first position) until) old.kept new
    (until-paused keeps (IsLeft ds old.members first position) old.kept new longer given last is c.in-Err-Paused.ensures.all) in (
      record {
        bound_is = refl;
        root_is = refl;
        most = most ∙ search.most;
        found = subst (AreAll (IsListBefore (CycleFrom ds old.bound old.root) until)) (sym e)
            (joined-until ds old.bound old.root position old.kept.cycles.items more search.found until kept
            (wider-until ds old.members old.bound old.root first position same search.within search.all until more all));
        within = search.within;
        eight = search.eight;
        all = search.all;
        can = λ some. record {
          begins = slice_get-get_or longer 0 0 goes.path.begun ∙ ap Some (begins ∙ same);
          path = goes.path;
          room = goes.room;
          above = goes.above;
          distances = can.distances;
        };
      },
      λ some. later (λ none. omega (arith, some, none)),
    )
