use Rattle.std.proofs.Common.{sym, ap, ◌∙◌, subst}
use Rattle.trace_model.specs.declared.messages.session.Reply.TheVariants.{Refused}
use Rattle.trace_model.specs.declared.messages.session.Request.TheVariants.{Ask}
use Rattle.trace_model.specs.Protocol.Machine.{ask_refused}
use Rattle.sequencer.specs.Book.{IsAccepted, IsRefusal, Refuses}
use Rattle.sequencer.proofs.QuestionAnswers.{refused_ask}
use Rattle.sequencer.proofs.book.Book.prepare_ask.Goals as goal

pub preview-requires : goal.preview-requires
preview-requires c = record {
  allowed = (λ i. ask_refused (c.in-Ok.ensures.shown i) (c.in-Ok.ensures.ok.0 i)) ∙ c.in-Ok.ensures.allowed;
  fresh = c.in-Ok.ensures.ok.1.1;
}

pub returns-in-Ok : goal.returns-in-Ok
returns-in-Ok c = record {
  shown = c.in-Ok.ensures.shown;
  ok = (
    ap Ask c.in-Ok.ensures.ok.0,
    record {
      reply_is = c.preview.ensures ∙ sym c.reply-reply.ensures;
      accepted = subst IsAccepted (sym c.reply-reply.ensures) tt;
      room = c.in-Ok.ensures.ok.1;
    },
  );
  refused = tt;
  refusal = tt;
}

pub returns-in-Err : goal.returns-in-Err
returns-in-Err c =
    let s = c.args.self.now.state in
    let question_view = refused_ask s c.args.bound c.in-Err.refused c.in-Err.ensures.refused in
    let reply = ap Refused (sym c.refusal.ensures) in
    record { shown = c.in-Err.ensures.shown; ok = tt; refused = subst (Refuses s (Ask c.args.bound)) reply question_view.0; refusal = subst (IsRefusal s (Ask c.args.bound)) reply question_view.1 }
