use Rattle.std.proofs.Common.{◌≡◌, ℕ, ◌<◌, ◌++◌, get_or, length, replicate, slice_get, Some, MatchOption, ap, sym, subst, ◌∙◌, arith}
use Rattle.std.proofs.Math.ListN.{length-replicate}
use Rattle.std.proofs.lemmas.List.{length-set}
use Rattle.std.proofs.lemmas.Option.{same_Some, slice_get-get_or, slice_get_within}
use Rattle.trace_model.specs.Theory.Reordering.{AreReached}
use Rattle.trace_model.specs.Theory.Refutation.{AreFirstPlaces, Derives, IsNextPlace, Refutes}
use Rattle.trace_model.proofs.Lists.{length-push}
use Rattle.trace_model.proofs.Theory.Refutation.{first_present, present_moves}
use Rattle.dependencies.specs.Tables.{dependency_places, AreDependencyNumbers}
use Rattle.explain.proofs.Moves.{all_known, some_listed, first_are, first_entries, entries_move, one_step_more, last_step, next_is, all_zero}
use Rattle.explain.proofs.refute.refutation_of.Goals as goal
use Rattle.explain.proofs.refute.refutation_of.Goals.{After-numbers-members, In_ok-push}

known : (c : After-numbers-members) → AreDependencyNumbers c.args.index.now.events c.numbers-members.result.now
known c = all_known c.args.index.now.events c.args.cycle.now c.numbers-members.result.now c.numbers-members.ensures.value c.requires.known

derives : (c : In_ok-push) → Derives c.args.index.now.events c.loop-count.places.items c.in-Some.step
derives c =
    let s = c.args.index.now.events in
    subst (λ xs. Derives s xs c.in-Some.step) c.as_slice.ensures.value
    (subst (λ o. MatchOption o (AreReached s c.as_slice.result.now) (Derives s c.as_slice.result.now)) c.in-Some.is c.in_ok-step.ensures)

within : (c : In_ok-push) → c.in-Some.step.member < length c.loop-count.places.items
within c = let d = derives c in slice_get_within c.loop-count.places.items c.in-Some.step.member d.0 d.1

number_at : (c : In_ok-push) → slice_get c.numbers-members.result.now c.in-Some.step.member ≡ Some (get_or c.numbers-members.result.now c.in-Some.step.member 0)
number_at c = slice_get-get_or c.numbers-members.result.now c.in-Some.step.member 0 (omega (arith, within c, c.loop-count.invariant.present.as_many))

entry_at : (c : In_ok-push) (e : ℕ) → e ≡ get_or c.loop-count.entries.items c.in-Some.step.member e → slice_get c.loop-count.entries.items c.in-Some.step.member ≡ Some e
entry_at c e is = slice_get-get_or c.loop-count.entries.items c.in-Some.step.member e
    (omega (arith, within c, c.loop-count.invariant.present.as_many, c.loop-count.invariant.as_many)) ∙ ap Some (sym is)

pub first_places-requires-clause-some : goal.first_places-requires-clause-some
first_places-requires-clause-some c = some_listed c.args.table.now c.args.index.now.events c.requires.one_trace

pub loop-count-init : goal.loop-count-init
loop-count-init c =
    let s = c.args.index.now.events in
    let table = c.args.table.now in
    let members = c.numbers-members.result.now in
    let places = c.first_places.new.places.items in
    let entries = c.in_ok-entries.entries.items in
    let first = first_are table s members places c.requires.one_trace (known (goal.at.loop-count-init c).After-numbers-members) c.first_places.ensures.sized c.first_places.ensures.first in
    let zeros : entries ≡ replicate (length members) 0 = c.in_ok-entries.ensures.items_if_clones_equal (λ y e. e) in
    let many : length entries ≡ length members = ap length zeros ∙ length-replicate (length members) 0 in
    record {
      present = first_present s members places first;
      entries = first_entries table members places entries c.first_places.ensures.sized many c.first_places.ensures.first
          (λ i e at. all_zero (length members) i e (ap (λ xs. slice_get xs i) (sym zeros) ∙ at));
      as_many = many;
      counted = ap length c.new-steps.ensures.items;
      refutes = λ rest r. subst (λ xs. Refutes s members places (xs ++ rest)) (sym c.new-steps.ensures.items) r;
    }

pub offset_bounds-members-member : goal.offset_bounds-members-member
offset_bounds-members-member c = omega (arith, within c, c.loop-count.invariant.present.as_many, ap length c.numbers-members.ensures.value, c.numbers-members.ensures.high)

pub bounds-members-member : goal.bounds-members-member
bounds-members-member c = omega (arith, within (goal.at.bounds-members-member c).In_ok-push, c.loop-count.invariant.present.as_many)

pub index-requires : goal.index-requires
index-requires c = omega (arith, within (goal.at.index-requires c).In_ok-push, c.loop-count.invariant.present.as_many, c.loop-count.invariant.as_many, c.loop-count.entries.ok)

pub place_after-requires-clause-known : goal.place_after-requires-clause-known
place_after-requires-clause-known c =
    let at = goal.at.place_after-requires-clause-known c in
    let i = c.in-Some.step.member in
    let m = get_or c.numbers-members.result.now i 0 in
    subst (λ ds. m < length ds) (sym c.requires.one_trace.0) (known at.After-numbers-members i m (number_at at.In_ok-push))

pub place_after-requires-clause-entry : goal.place_after-requires-clause-entry
place_after-requires-clause-entry c =
    let at = (goal.at.place_after-requires-clause-entry c).In_ok-push in
    let i = c.in-Some.step.member in
    let m = get_or c.numbers-members.result.now i 0 in
    let e = c.index.result.now in
    let d = derives at in
    let (x, is, there) = c.loop-count.invariant.entries i m d.0 (number_at at) d.1 in
    subst (λ z. z < length (dependency_places c.args.table.now m)) (same_Some x e (sym is ∙ entry_at at e c.index.ensures)) (slice_get_within (dependency_places c.args.table.now m) x d.0 there)

pub returns-in_default-place_after : goal.returns-in_default-place_after
returns-in_default-place_after c =
    let s = c.args.index.now.events in
    let table = c.args.table.now in
    let at = goal.at.returns-in_default-place_after c in
    let members = c.numbers-members.result.now in
    let first = c.first_places.new.places.items in
    let places = c.loop-count.places.items in
    let step = c.in-Some.step in
    let i = step.member in
    let m = get_or members i 0 in
    let e = c.index.result.now in
    let h = c.loop-count.invariant in
    let d = derives at.In_ok-push in
    let k = known at.After-numbers-members in
    let next = subst (IsNextPlace s members places i) c.in_default-place_after.ensures.next
    (next_is table s members places c.loop-count.entries.items i m e c.requires.one_trace k (number_at at.In_ok-push) c.in_default-place_after.ensures.ascends h.entries (entry_at at.In_ok-push e c.index.ensures) d.0 d.1) in
    let begins = first_are table s members first c.requires.one_trace k c.first_places.ensures.sized c.first_places.ensures.first in
    let all = subst (Refutes s members first) (sym c.in_ok-push.ensures.items) (last_step s members places first c.loop-count.steps.items step d next h.refutes) in
    (first, subst (λ ms. AreFirstPlaces s ms first) c.numbers-members.ensures.value begins, subst (λ ms. Refutes s ms first c.push.new.self.items) c.numbers-members.ensures.value all)

pub index_mut-requires : goal.index_mut-requires
index_mut-requires c = omega (arith, within (goal.at.index_mut-requires c).In_ok-push, c.loop-count.places.ok)

pub index_mut-requires-in-loop-count : goal.index_mut-requires-in-loop-count
index_mut-requires-in-loop-count c =
    omega (arith, within (goal.at.index_mut-requires-in-loop-count c).In_ok-push, c.loop-count.invariant.present.as_many, c.loop-count.invariant.as_many, c.loop-count.entries.ok)

pub loop-count-preserved : goal.loop-count-preserved
loop-count-preserved c =
    let s = c.args.index.now.events in
    let table = c.args.table.now in
    let at = goal.at.loop-count-preserved c in
    let members = c.numbers-members.result.now in
    let first = c.first_places.new.places.items in
    let places = c.loop-count.places.items in
    let entries = c.loop-count.entries.items in
    let step = c.in-Some.step in
    let i = step.member in
    let m = get_or members i 0 in
    let e = c.index.result.now in
    let h = c.loop-count.invariant in
    let d = derives at.In_ok-push in
    let at_m = number_at at.In_ok-push in
    let entry = entry_at at.In_ok-push e c.index.ensures in
    let q = c.in-Some-place_after.next.1 in
    let n = c.in-Some-place_after.next.0 in
    let moves = c.in-Some-place_after.ensures.next in
    let here : slice_get (dependency_places table m) n ≡ Some q = ap (slice_get (dependency_places table m)) moves.0 ∙ moves.1 in
    let next = subst (IsNextPlace s members places i) moves.1
    (next_is table s members places entries i m e c.requires.one_trace (known at.After-numbers-members) at_m c.in-Some-place_after.ensures.ascends h.entries entry d.0 d.1) in
    let pushed = c.in_ok-push.ensures.items in
    record {
      present = present_moves s members places i q next.1 h.present next.3 next.4.1;
      entries = entries_move table members places entries i m n q at_m (slice_get_within entries i e entry) here h.entries;
      as_many = length-set entries i n ∙ h.as_many;
      counted = omega (arith, ap length pushed, length-push c.loop-count.steps.items step, h.counted);
      refutes = λ rest r. subst (λ xs. Refutes s members first (xs ++ rest)) (sym pushed)
          (one_step_more s members places first c.loop-count.steps.items step q d next h.refutes rest r);
    }

pub first_places-requires-clause-known : goal.first_places-requires-clause-known
first_places-requires-clause-known c i m at =
    subst (λ ds. m < length ds) (sym c.requires.one_trace.0) (known (goal.at.first_places-requires-clause-known c).After-numbers-members i m at)
