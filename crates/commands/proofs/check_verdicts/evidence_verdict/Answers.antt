use Rattle.std.proofs.Common.{◌≡◌, ◌<◌, ◌∙◌, ◌==◌, false, refl, true≢false, ℕ, List, [], ◌∷◌, Some, map, ap, length, sym, subst, true}
use Rattle.std.specs.Prelude.{is_some}
use Rattle.std.specs.List.{All}
use Rattle.std.proofs.lemmas.List.{length-map}
use Rattle.commands.proofs.StepMembers.{map-map}
use Rattle.std.proofs.Math.ListN.{get_or-map}
use Rattle.event_files.specs.declared.explanations.Evidence.{Evidence}
use Rattle.event_files.specs.declared.explanations.ExplainedMember.{ExplainedMember}
use Rattle.event_files.specs.declared.explanations.ExplainedStep.{ExplainedStep}
use Rattle.event_files.specs.ExplainedText.{StatedMember, is_witness, refutation, stated_cycle, stated_evidence, stated_member}
use Rattle.trace_model.specs.declared.refutations.RefutationStep.{RefutationStep}
use Rattle.replay.specs.Refuting.{IsRefutationVerdict}
use Rattle.replay.specs.Verdict.{IsVerdict}
use Rattle.commands.specs.Check.{steps_in}
use Rattle.commands.proofs.check_verdicts.evidence_verdict.Goals as goal

pub instance_of-requires-clause-placed : goal.instance_of-requires-clause-placed
instance_of-requires-clause-placed c =
    let items = c.args.explained.now.members.items in
    let witness = ap (λ (x : Evidence). is_witness (stated_evidence x)) c.in-Witness.is in
    let placed : All (λ (m : ExplainedMember). is_some m.place ≡ true) items = λ k d within.
    let shown = get_or-map stated_member items k d in
    ap (λ (m : StatedMember). is_some m.place) (sym shown) ∙ c.requires.row.placed k (stated_member d) (subst (λ n. k < n) (sym (length-map items stated_member)) within) ∙ witness in
    subst (All (λ (m : ExplainedMember). is_some m.place ≡ true)) (sym c.deref.ensures.value) placed

pub returns-in_ok-verdict-in-Witness : goal.returns-in_ok-verdict-in-Witness
returns-in_ok-verdict-in-Witness c =
    let e = c.args.explained.now in
    let instance = c.in_ok-instance-in-Witness.instance in
    let members = c.deref.result.now in
    let places : map (λ (m : StatedMember). m.place) (map stated_member e.members.items) ≡ map Some instance =
    map-map (λ (m : StatedMember). m.place) stated_member e.members.items ∙ subst (λ (l : List ExplainedMember). map (λ (m : ExplainedMember). m.place) l ≡ map Some instance) c.deref.ensures.value c.in_ok-instance-in-Witness.ensures in
    let verdict = subst (λ (order : List ℕ). IsVerdict c.args.checker.now order instance c.in_ok-verdict-in-Witness.verdict) c.deref-in-Witness.ensures.value c.in_ok-verdict-in-Witness.ensures.verdict in
    (c.requires.of_trace, (c.in-Witness.order.items, instance, ap stated_evidence c.in-Witness.is, places, verdict))

first_step : (steps : List ExplainedStep) → (length steps == 0) ≡ false → (x : ExplainedStep) × (xs : List ExplainedStep) × (steps ≡ x ∷ xs)
first_step [] none = absurd (true≢false none)
first_step (x ∷ xs) none = (x, xs, refl)

pub returns-in_ok-verdict-in-Refutation : goal.returns-in_ok-verdict-in-Refutation
returns-in_ok-verdict-in-Refutation c =
    let e = c.args.explained.now in
    let r = stated_cycle e in
    let s = c.args.checker.now in
    let v = c.in_ok-verdict-in-Refutation.verdict in
    let steps = c.in-Refutation.steps.items in
    let (x, xs, is) = first_step steps (ap (λ (l : List ExplainedStep). length l == 0) (sym c.as_slice.ensures.value) ∙ sym c.is_empty.ensures ∙ c.if-is_empty.false) in
    let all = c.in_ok-refutation-in-Refutation.ensures
    ∙ (λ i. steps_in (map stated_member (c.deref-in-Refutation.ensures.value i)) (c.deref-in-Refutation-2.ensures.value i)) ∙ ap (steps_in r.members) is in
    (c.requires.of_trace, (x, xs, ap stated_evidence c.in-Refutation.is ∙ ap refutation is, subst (λ (l : List RefutationStep). IsRefutationVerdict s r.cycle l v) all c.in_ok-verdict-in-Refutation.ensures.verdict))
