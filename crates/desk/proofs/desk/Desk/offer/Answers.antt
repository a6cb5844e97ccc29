use Rattle.std.proofs.Common.{◌≡◌, [], ◌∷◌, sym, subst}
use Rattle.trace_model.specs.declared.messages.session.Reply.TheVariants.{Placed, Refused}
use Rattle.trace_model.specs.declared.messages.session.Request.TheVariants.{Offer}
use Rattle.trace_model.specs.declared.messages.step.BoardStep.TheVariants.{Accept}
use Rattle.trace_model.specs.Protocol.Machine.{step}
use Rattle.trace_model.specs.Protocol.Runs.{IsLegal}
use Rattle.sequencer.specs.Book.{Refuses}
use Rattle.sequencer.specs.Printing.{report_printer}
use Rattle.desk.proofs.Outcome.{ended_by, if_ok, refused_after}
use Rattle.desk.proofs.desk.Desk.offer.Goals as goal

pub returns : goal.returns
returns g c =
    let limit = g.N.HistoryId.limit in
    let old = c.deref_mut.result.now in
    let new = c.offer.new.self in
    let response = c.offer.result in
    let o = c.offer.ensures in
    let event = c.args.event in
    record {
      placed = ended_by limit old new response.1 response.0 (λ _. Accept (event ∷ [])) (λ place state next. step report_printer state (Offer event) ≡ (Placed place, next)) o.before o.after o.receipt (if_ok response.0 _ o.published) o.placed;
      refused = refused_after limit old new response.1 response.0 (λ refusal state. Refuses state (Offer event) (Refused refusal)) o.before o.receipt o.same o.refused;
      legal = subst IsLegal (sym o.receipt) o.legal;
    }
