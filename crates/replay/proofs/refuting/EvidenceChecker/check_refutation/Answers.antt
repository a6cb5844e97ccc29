use Rattle.std.proofs.Common.{length, inl, inr, refl, ap, sym, subst, ◌∙◌, arith}
use Rattle.trace_model.specs.Theory.Refutation.{AreFirstPlaces}
use Rattle.trace_model.proofs.Theory.OneMore.{length_well_formed}
use Rattle.replay.specs.Numbers.{AreNumbersByPlace}
use Rattle.replay.specs.Refuting.{IsFirstUnknown, IsRefutationVerdict, IsVerdictFrom, IsUnmarked}
use Rattle.dependencies.specs.Tables.{AreDependencyNumbers}
use Rattle.replay.specs.declared.refutation_verdict.RefutationVerdict.TheVariants.{UnknownNumber}
use Rattle.replay.proofs.RefutationLaws.{valid_is_refutation, first_known}
use Rattle.replay.proofs.Marks.{no_marks_yet}
use Rattle.replay.proofs.refuting.EvidenceChecker.check_refutation.Goals as goal

pub first_places-requires-clause-few : goal.first_places-requires-clause-few
first_places-requires-clause-few c =
    let own = c.self.invariant in
    omega (arith, ap length c.deref.ensures.value, own.sized, length_well_formed c.self.inside.trace.now own.lawful)

pub returns-in-Some-clause-verdict : goal.returns-in-Some-clause-verdict
returns-in-Some-clause-verdict c =
    let s = c.self.inside.trace.now in
    let m = c.in-Some.unknown in
    let are = subst (AreNumbersByPlace s) (sym c.deref.ensures.value) c.self.invariant.numbers_are in
    subst (λ t. IsRefutationVerdict t c.args.cycle.now c.args.refutation.now (UnknownNumber m)) c.self.view_is
    (inl (m, subst (λ ms. IsFirstUnknown s ms m) c.numbers-2.ensures.value (c.in-Some.ensures s are), refl))

pub returns-in-Some-clause-exact : goal.returns-in-Some-clause-exact
returns-in-Some-clause-exact c =
    valid_is_refutation c.args.self.now c.args.cycle.now c.args.refutation.now (UnknownNumber c.in-Some.unknown) (returns-in-Some-clause-verdict c)

pub follow-requires-clause-facts : goal.follow-requires-clause-facts
follow-requires-clause-facts c = c.self.invariant.facts_are

pub follow-requires-clause-numbers : goal.follow-requires-clause-numbers
follow-requires-clause-numbers c = subst (AreNumbersByPlace c.self.inside.trace.now) (sym c.deref-2.ensures.value) c.self.invariant.numbers_are

pub follow-requires-clause-few : goal.follow-requires-clause-few
follow-requires-clause-few c =
    let own = c.self.invariant in
    omega (arith, ap length c.deref-2.ensures.value, own.sized, length_well_formed c.self.inside.trace.now own.lawful)

pub follow-requires-clause-known : goal.follow-requires-clause-known
follow-requires-clause-known c =
    let s = c.self.inside.trace.now in
    let are = subst (AreNumbersByPlace s) (sym c.deref.ensures.value) c.self.invariant.numbers_are in
    subst (AreDependencyNumbers s) (c.numbers-2.ensures.value ∙ sym c.numbers-3.ensures.value) (first_known s c.numbers-2.result.now c.first_places.new.places.items (c.in_default.ensures s are))

pub follow-requires-clause-as_many : goal.follow-requires-clause-as_many
follow-requires-clause-as_many c =
    let s = c.self.inside.trace.now in
    let are = subst (AreNumbersByPlace s) (sym c.deref.ensures.value) c.self.invariant.numbers_are in
    (c.in_default.ensures s are).0 ∙ ap length (c.numbers-2.ensures.value ∙ sym c.numbers-3.ensures.value)

pub follow-requires-clause-unmarked : goal.follow-requires-clause-unmarked
follow-requires-clause-unmarked c = subst IsUnmarked (sym c.in_ok-marks.ensures) (no_marks_yet (length c.self.inside.trace.now))

pub returns-clause-verdict : goal.returns-clause-verdict
returns-clause-verdict c =
    let s = c.self.inside.trace.now in
    let are = subst (AreNumbersByPlace s) (sym c.deref.ensures.value) c.self.invariant.numbers_are in
    let places = c.first_places.new.places.items in
    subst (λ t. IsRefutationVerdict t c.args.cycle.now c.args.refutation.now c.follow.result) c.self.view_is (inr (
      places,
      subst (λ ms. AreFirstPlaces s ms places) c.numbers-2.ensures.value (c.in_default.ensures s are),
      subst (λ xs. IsVerdictFrom s c.args.cycle.now places xs 0 c.follow.result) c.steps.ensures
          (subst (λ ms. IsVerdictFrom s ms places c.steps.result.now 0 c.follow.result) c.numbers-3.ensures.value c.follow.ensures),
    ))

pub returns-clause-exact : goal.returns-clause-exact
returns-clause-exact c =
    valid_is_refutation c.args.self.now c.args.cycle.now c.args.refutation.now c.follow.result (returns-clause-verdict c)
