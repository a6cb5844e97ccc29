use Rattle.std.proofs.Common.{refl, sym, ap, ◌∙◌, subst}
use Rattle.trace_model.specs.declared.messages.session.Reply.TheVariants.{Refused}
use Rattle.trace_model.specs.declared.messages.session.Request.TheVariants.{Answer}
use Rattle.trace_model.specs.Protocol.Machine.{answer}
use Rattle.sequencer.specs.Printing.{report_printer}
use Rattle.sequencer.specs.Book.{BookView, IsAccepted, IsRefusal, Refuses}
use Rattle.sequencer.proofs.QuestionAnswers.{accepted_answer, refused_answer}
use Rattle.sequencer.proofs.book.Book.prepare_answer.Goals as goal

pub returns-in-Ok : goal.returns-in-Ok
returns-in-Ok c = record {
  shown = ap (λ (b : BookView). b.state) c.in-Ok.ensures.same;
  ok = (
    refl,
    record {
      reply_is = ap (λ (b : BookView). answer report_printer b.state c.args.question) c.in-Ok.ensures.same ∙ (c.in-Ok.ensures.ok ∙ sym c.reply.ensures);
      accepted = subst IsAccepted (sym c.reply.ensures) (accepted_answer c.args.question c.in-Ok.answer);
      room = tt;
    },
  );
  refused = tt;
  refusal = tt;
}

pub returns-in-Err : goal.returns-in-Err
returns-in-Err c =
    let s = c.args.self.now.state in
    let request = Answer c.args.question in
    let refused = refused_answer s c.args.question c.in-Err.refused c.in-Err.ensures.refused in
    let reply = ap Refused (sym c.refusal.ensures) in
    record { shown = ap (λ (b : BookView). b.state) c.in-Err.ensures.same; ok = tt; refused = subst (Refuses s request) reply refused.0; refusal = subst (IsRefusal s request) reply refused.1 }
