use Rattle.std.proofs.Common.{◌≡◌, None, refl, sym, ap, ◌∙◌, subst}
use Rattle.trace_model.specs.declared.messages.session.Reply.TheVariants.{Placed}
use Rattle.trace_model.specs.Protocol.Machine.{State}
use Rattle.trace_model.specs.Theory.Lawful.{refusal_of}
use Rattle.sequencer.proofs.QuestionAnswers.{placed_offer, refused_offer}
use Rattle.sequencer.proofs.book.Book.prepare_offer.Goals as goal

pub returns-in-Err : goal.returns-in-Err
returns-in-Err c =
    let question_view = refused_offer c.args.self.now.state c.args.event c.in-Err.refusal c.in-Err.ensures.refused in
    record { shown = c.in-Err.ensures.shown; ok = tt; refused = question_view.0; refusal = question_view.1 }

pub returns : goal.returns
returns c =
    let s = c.reserve_event.new.self.state in
    let e = c.args.event in
    let lawful = subst (λ (m : State). refusal_of m.limit m.accepted e ≡ None) (sym c.in_default.ensures.shown) c.in_default.ensures.ok.1 in
    record {
      shown = c.in_default.ensures.shown;
      ok = (
        refl,
        record {
          reply_is = placed_offer s e lawful ∙ sym (ap Placed (c.new.ensures ∙ c.accepted.ensures));
          accepted = tt;
          room = c.in_default.ensures.ok.0;
        },
      );
      refused = tt;
      refusal = tt;
    }
