use Rattle.std.proofs.Common.{refl, sym, ap, subst, ◌∙◌}
use Rattle.std.specs.Arc.{arc_value}
use Rattle.trace_model.specs.Protocol.Runs.{IsLegal}
use Rattle.sequencer.specs.Book.{RefusesSnapshot}
use Rattle.desk.specs.Published.{DeskView}
use Rattle.desk.specs.Questions.{IsAboutEvents}
use Rattle.desk.proofs.Outcome.{on_err, refused_after, outcome_after}
use Rattle.desk.proofs.desk.Desk.snapshot.Goals as goal

pub returns : goal.returns
returns g c =
    let limit = g.N.HistoryId.limit in
    let kept = c.deref.result.now in
    let run = c.receipt.result in
    let question = c.args.question in
    let names = c.receipt.ensures.published ∙ ap (λ (k : DeskView). k.published) (c.deref-2.ensures ∙ sym c.deref.ensures) in
    record {
      ok = outcome_after limit kept kept run c.snapshot.result (λ shared state. IsAboutEvents state question (arc_value shared)) c.snapshot.ensures.now names refl c.snapshot.ensures.ok;
      refused = refused_after limit kept kept run c.snapshot.result (λ refusal state. RefusesSnapshot state question refusal) c.snapshot.ensures.now names (on_err c.snapshot.result refl) c.snapshot.ensures.refused;
      legal = subst IsLegal (sym c.receipt.ensures.published) c.receipt.ensures.legal;
    }
