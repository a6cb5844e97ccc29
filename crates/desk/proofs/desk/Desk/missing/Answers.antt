use Rattle.std.proofs.Common.{◌≡◌, None, slice_get, refl, sym, ap, subst, ◌∙◌}
use Rattle.trace_model.specs.Protocol.Runs.{IsLegal}
use Rattle.desk.specs.Published.{DeskView}
use Rattle.desk.specs.Questions.{IsFirstMissing}
use Rattle.desk.proofs.Outcome.{on_err, refused_after, outcome_after}
use Rattle.desk.proofs.desk.Desk.missing.Goals as goal

pub returns : goal.returns
returns g c =
    let limit = g.N.HistoryId.limit in
    let kept = c.deref.result.now in
    let run = c.receipt.result in
    let question = c.args.question in
    let found = c.missing.result in
    let now = c.missing.ensures.now in
    let names = c.receipt.ensures.published ∙ ap (λ (k : DeskView). k.published) (c.deref-2.ensures ∙ sym c.deref.ensures) in
    record {
      ok = outcome_after limit kept kept run found (λ first state. IsFirstMissing state question first) now names refl c.missing.ensures.ok;
      refused = refused_after limit kept kept run found (λ _ state. slice_get state.questions question ≡ None) now names (on_err found refl) c.missing.ensures.refused;
      legal = subst IsLegal (sym c.receipt.ensures.published) c.receipt.ensures.legal;
    }
