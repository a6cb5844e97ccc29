use Rattle.std.proofs.Common.{◌≡◌, List, ◌++◌, Option, MatchOption, map, sym, ap, subst, ◌∙◌}
use Rattle.trace_model.specs.declared.refutations.RefutationStep.{RefutationStep}
use Rattle.reports.specs.Text.{row_text}
use Rattle.event_files.specs.Refutations.{refutation_text}
use Rattle.commands.proofs.PotentialRows.{explains_with, given_refutation}
use Rattle.commands.proofs.explain_command.explanation_of.Goals as goal
use Rattle.commands.proofs.explain_command.explanation_of.Goals.{in-Some+in_ok-push_reasons, in_default}

pub push_reasons-requires : goal.push_reasons-requires
push_reasons-requires c =
    let (s, named, has) = c.requires.row in
    (s, named, given_refutation s c.args.row.now.row c.args.refutation.now c.in-Some.refutation has c.in-Some.is)

pub returns : goal.returns
returns c s has =
    let p = c.args.row.now in
    let text = c.match-refutation.text.items in
    let written = c.in_ok-text.ensures.items ∙ c.requires.printed in
    let Written : Option (List RefutationStep) → Type 0 = λ o. MatchOption o (text ≡ row_text p) (λ steps. text ≡ row_text p ++ refutation_text (map (λ d. d.thread) p.dependencies) steps) in
    explains_with s p c.args.refutation.now text has (elim c.match-refutation.branch [
      | in-Some+in_ok-push_reasons w ↦
          let steps = w.in-Some.refutation in
          subst Written (sym w.in-Some.is) (ap (λ v. v.items) w.text-is ∙ w.in_ok-push_reasons.ensures ∙ ap (λ l. l ++ refutation_text (map (λ d. d.thread) p.dependencies) steps) written)
      | in_default w ↦ subst Written (sym w.in_default.is) (ap (λ v. v.items) w.text-is ∙ written)
    ])
