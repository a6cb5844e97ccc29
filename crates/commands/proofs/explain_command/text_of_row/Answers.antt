use Rattle.std.proofs.Common.{refl, sym, subst, ◌∙◌}
use Rattle.reports.specs.Printed.{PrintedRow}
use Rattle.commands.specs.Explain.{HasRefutation, IsExplanation, IsNamedRow}
use Rattle.commands.proofs.explain_command.text_of_row.Goals as goal

pub explanation_of-requires-clause-row : goal.explanation_of-requires-clause-row
explanation_of-requires-clause-row c =
    let s = c.args.snapshot.now in
    let row = c.args.refuted.row in (
      s,
      subst (IsNamedRow s) (sym c.in_ok-row.ensures.row) (record { known = c.requires.0.known; named = refl }),
      subst (λ (p : PrintedRow). HasRefutation s p.row c.args.refuted.refutation) (sym c.in_ok-row.ensures.row) c.requires.1,
    )

pub explanation_of-requires-clause-printed : goal.explanation_of-requires-clause-printed
explanation_of-requires-clause-printed c = c.text.ensures ∙ c.in_ok-row.ensures.text

pub returns : goal.returns
returns c =
    let s = c.args.snapshot.now in
    let has = subst (λ (p : PrintedRow). HasRefutation s p.row c.args.refuted.refutation) (sym c.in_ok-row.ensures.row) c.requires.1 in
    subst (λ (p : PrintedRow). IsExplanation s p c.in_ok-text.text.items) c.in_ok-row.ensures.row (c.in_ok-text.ensures s has)
