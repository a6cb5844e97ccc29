use Rattle.std.proofs.Common.{◌≡◌, length, slice_get, Some, None, sym, ap, subst, ◌∙◌, arith}
use Rattle.std.proofs.lemmas.List.{length-set}
use Rattle.std.proofs.lemmas.Option.{slice_get-get_or, slice_get_within}
use Rattle.trace_model.specs.Theory.Refutation.{Derives, IsNextPlace}
use Rattle.replay.specs.Refuting.{IsFault}
use Rattle.replay.specs.declared.refutation_verdict.RefutationVerdict.TheVariants.{WrongStep}
use Rattle.replay.proofs.RefutationVerdicts.{fault_verdict, last_verdict, moved_verdict}
use Rattle.replay.proofs.refuting.follow.Goals as goal
use Rattle.replay.proofs.refuting.follow.Goals.{After-index-steps-k}

step_at : (c : After-index-steps-k) → slice_get c.args.steps.now c.loop-k.k ≡ Some c.index-steps-k.result
step_at c = slice_get-get_or c.args.steps.now c.loop-k.k c.index-steps-k.result c.loop-k-test.true ∙ ap Some (sym c.index-steps-k.is)

pub returns-in-Some : goal.returns-in-Some
returns-in-Some c =
    let s = c.args.trace.now in
    let k = c.loop-k.k in
    let step = c.index-steps-k.result in
    let fault = subst (λ ps. IsFault s ps step c.in-Some.fault) c.deref.ensures.value c.in-Some.ensures.fault in
    c.loop-k.invariant.verdict (WrongStep k c.in-Some.fault)
    (fault_verdict s c.args.members.now c.loop-k.places.items c.args.steps.now k step (step_at (goal.at.returns-in-Some c).After-index-steps-k) c.in-Some.fault fault)

pub next_place-requires-clause-within : goal.next_place-requires-clause-within
next_place-requires-clause-within c =
    let (p, at, derivation, caught) = c.in_default.ensures.fault in
    rw c.deref-in-loop-k.ensures.value (rw c.deref.ensures.value at (slice_get_within c.deref.result.now _ p at))

pub index_mut-requires : goal.index_mut-requires
index_mut-requires c =
    let (p, at, derivation, caught) = c.in_default.ensures.fault in
    omega (arith, ap length c.deref.ensures.value, slice_get_within c.deref.result.now _ p at, c.loop-k.places.ok)

pub returns-in-None : goal.returns-in-None
returns-in-None c =
    let s = c.args.trace.now in
    let members = c.args.members.now in
    let step = c.index-steps-k.result in
    let derives = subst (λ ps. Derives s ps step) c.deref.ensures.value c.in_default.ensures.fault in
    let next = subst (λ ps. IsNextPlace s members ps step.member None) c.deref-in-loop-k.ensures.value (c.in-None.ensures s c.requires.numbers c.requires.known) in
    c.loop-k.invariant.verdict c.end_verdict.result
    (last_verdict s members c.loop-k.places.items c.args.steps.now c.loop-k.k step (step_at (goal.at.returns-in-None c).After-index-steps-k) derives next c.end_verdict.result c.end_verdict.ensures)

pub loop-k-preserved : goal.loop-k-preserved
loop-k-preserved c =
    let s = c.args.trace.now in
    let members = c.args.members.now in
    let k = c.loop-k.k in
    let h = c.loop-k.invariant in
    let places = c.loop-k.places.items in
    let step = c.index-steps-k.result in
    let at = step_at (goal.at.loop-k-preserved c).After-index-steps-k in
    let derives = subst (λ ps. Derives s ps step) c.deref.ensures.value c.in_default.ensures.fault in
    let q = c.in-Some-next_place.next in
    let next = subst (λ ps. IsNextPlace s members ps step.member (Some q)) c.deref-in-loop-k.ensures.value (c.in-Some-next_place.ensures s c.requires.numbers c.requires.known) in
    record {
      as_many = length-set places step.member q ∙ h.as_many;
      sized = c.in_default.ensures.sized;
      unmarked = c.in_default.ensures.unmarked;
      verdict = λ v rest. h.verdict v (moved_verdict s members places c.args.steps.now k step at derives q next v rest);
    }
