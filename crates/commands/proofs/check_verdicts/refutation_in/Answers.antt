use Rattle.std.proofs.Common.{[], ◌∷◌, ◌++◌, ◌∙◌, List, ap, map, sym, take}
use Rattle.std.proofs.lemmas.List.{map-append, take_more}
use Rattle.trace_model.specs.declared.refutations.RefutationStep.{RefutationStep}
use Rattle.event_files.specs.ExplainedText.{stated_member}
use Rattle.event_files.specs.declared.explanations.ExplainedStep.{ExplainedStep}
use Rattle.commands.specs.Check.{step_in, steps_in}
use Rattle.commands.proofs.check_verdicts.refutation_in.Goals as goal

pub loop-step-preserved : goal.loop-step-preserved
loop-step-preserved c =
    let members = map stated_member c.args.members.now in
    let all = c.args.explained.now in
    let i = c.loop-step.step-index in
    let x = c.step-item.result in
    let more = take_more all i x c.loop-step-test.true ∙ ap (λ (e : ExplainedStep). take i all ++ e ∷ []) (sym c.step-item.is) in
    c.in_ok-push.ensures.items ∙ ap (λ (l : List RefutationStep). l ++ c.in_ok-step_in.field-0 ∷ []) c.loop-step.invariant ∙ ap (λ (y : RefutationStep). steps_in members (take i all) ++ y ∷ []) c.in_ok-step_in.ensures
    ∙ sym (ap (steps_in members) more ∙ map-append (step_in members) (take i all) (x ∷ []))
