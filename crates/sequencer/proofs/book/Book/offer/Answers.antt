use Rattle.std.proofs.Common.{◌≡◌, None, length, sym, ap, subst, ◌∙◌}
use Rattle.std.proofs.lemmas.Result.{IfOk-from_err, err_from_is_err_and}
use Rattle.trace_model.specs.declared.messages.session.Reply.TheVariants.{Placed}
use Rattle.trace_model.specs.Theory.Lawful.{refusal_of}
use Rattle.trace_model.specs.Protocol.Machine.{State, offer_next, offer_reply, with_event}
use Rattle.sequencer.specs.Book.{RefusesOffer}
use Rattle.sequencer.proofs.book.Book.offer.Goals as goal

pub returns-in_err-reserve_event : goal.returns-in_err-reserve_event
returns-in_err-reserve_event c =
    let question_view = err_from_is_err_and c.from_residual.result c.from_residual.ensures.1 in
    let refused = subst (RefusesOffer c.args.self.now.state c.args.event) (sym question_view.2) c.in_err-reserve_event.ensures.refused in
    record {
      ok = IfOk-from_err c.from_residual.result _ c.from_residual.ensures.0;
      refused = rw question_view.1 (refused, c.in_err-reserve_event.ensures.shown);
    }

pub record_event-requires : goal.record_event-requires
record_event-requires c = record {
  reserved = c.in_ok-reserve_event.ensures.ok.0;
  lawful = subst (λ (m : State). refusal_of m.limit m.accepted c.args.event ≡ None) (sym c.in_ok-reserve_event.ensures.shown) c.in_ok-reserve_event.ensures.ok.1;
}

pub returns : goal.returns
returns c =
    let s = c.args.self.now.state in
    let e = c.args.event in
    let shown = c.in_ok-reserve_event.ensures.shown in
    let place = c.new-place.ensures ∙ (c.accepted.ensures ∙ ap (λ (m : State). length m.accepted) shown) in
    let after = c.record_event.ensures ∙ ap (λ (m : State). with_event m e) shown in
    record {
      ok = (λ i. (offer_reply s (c.in_ok-reserve_event.ensures.ok.1 i), offer_next s e (c.in_ok-reserve_event.ensures.ok.1 i))) ∙ (λ i. (Placed (sym place i), sym after i));
      refused = tt;
    }
