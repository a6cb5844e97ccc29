use Rattle.std.proofs.Common.{◌≡◌, ◌++◌, List, ℕ, get_or, sym, ap, subst, ◌∙◌}
use Rattle.std.proofs.lemmas.Option.{get_or_from_slice_get}
use Rattle.rayon.proofs.ListFacts.{IfOk-then}
use Rattle.trace_model.specs.Theory.Trace.{Trace}
use Rattle.reports.specs.Printed.{PrintedRow}
use Rattle.reports.specs.Text.{row_text}
use Rattle.commands.specs.Explain.{HasRefutation, IsExplanation, IsKnownRow, IsNamedRow}
use Rattle.commands.proofs.PotentialRows.{known_row}
use Rattle.commands.proofs.explain_command.text_of.Goals as goal
use Rattle.commands.proofs.explain_command.text_of.Goals.{After-row}

known : (c : After-row) → IsKnownRow c.args.finding.now.events c.index-rows-index.result.row × IsNamedRow c.args.finding.now.events c.index-rows-index.result
known c =
    let f = c.args.finding.now in
    let row = c.index-rows-index.result in
    let at : row ≡ get_or f.rows c.args.index row = subst (λ rs. row ≡ get_or rs c.args.index row) c.rows.ensures.rows c.index-rows-index.is in
    subst (λ (p : PrintedRow). IsKnownRow f.events p.row × IsNamedRow f.events p) (sym at) (known_row f.events f.bound f.task f.rows c.args.index row c.requires.index c.rows.ensures.exact)

pub refutation-requires : goal.refutation-requires
refutation-requires c =
    subst (λ (p : PrintedRow). IsKnownRow c.args.refuter.now p.row) (sym c.row.view_is)
    (subst (λ (s : Trace). IsKnownRow s c.index-rows-index.result.row) (sym c.requires.events) (known c).0)

pub explanation_of-requires-clause-row : goal.explanation_of-requires-clause-row
explanation_of-requires-clause-row c =
    let s = c.args.refuter.now in (
      s,
      subst (λ (s : Trace). IsNamedRow s c.index-rows-index.result) (sym c.requires.events) (known (goal.at.explanation_of-requires-clause-row c).After-row).1,
      subst (λ (p : PrintedRow). HasRefutation s p.row c.in_ok-refutation.refutation) c.row.view_is c.in_ok-refutation.ensures,
    )

pub explanation_of-requires-clause-printed : goal.explanation_of-requires-clause-printed
explanation_of-requires-clause-printed c =
    c.bytes.ensures ∙ c.in_ok-push_row.ensures ∙ ap (λ (l : List ℕ). l ++ row_text c.index-rows-index.result) c.new-buffer.ensures

pub returns : goal.returns
returns c =
    let f = c.args.finding.now in
    let own = c.index-rows-index.result in
    let has = subst (λ (p : PrintedRow). HasRefutation c.args.refuter.now p.row c.in_ok-refutation.refutation) c.row.view_is c.in_ok-refutation.ensures in
    IfOk-then c.explanation_of.result _ _ c.explanation_of.ensures (λ text explains row at.
    let here : own ≡ get_or f.rows c.args.index own = subst (λ rs. own ≡ get_or rs c.args.index own) c.rows.ensures.rows c.index-rows-index.is in
    let same = here ∙ get_or_from_slice_get f.rows c.args.index row own at in
    subst (λ (p : PrintedRow). IsExplanation f.events p text.items) same
    (subst (λ (s : Trace). IsExplanation s own text.items) c.requires.events (explains c.args.refuter.now has)))
