use Rattle.std.proofs.Common.{inl, sym, ap, subst}
use Rattle.trace_model.specs.declared.messages.session.Reply.{Reply}
use Rattle.trace_model.specs.declared.messages.session.Reply.TheVariants.{Refused}
use Rattle.trace_model.specs.declared.messages.session.Request.TheVariants.{Offer}
use Rattle.trace_model.specs.Protocol.Machine.{State}
use Rattle.sequencer.specs.Called.{StepsOrMemory}
use Rattle.sequencer.proofs.Called.{refused_rightly, refused_steps}
use Rattle.sequencer.proofs.QuestionAnswers.{refused_offer}
use Rattle.sequencer.proofs.book.Book.call_offer.Goals as goal

pub returns-in-Ok : goal.returns-in-Ok
returns-in-Ok c = record {
  steps = inl c.in-Ok.ensures.ok;
  wanting = λ lacks. inl (ap (λ (p : Reply × State). p.0) c.in-Ok.ensures.ok);
  fits = tt;
}

pub returns-in-Err : goal.returns-in-Err
returns-in-Err c =
    let s = c.args.self.now.state in
    let request = Offer c.args.event in
    let reply = Refused c.in-Err.refusal in
    let (refused, same) = c.in-Err.ensures.refused in
    let (refuses, refusal) = refused_offer s c.args.event c.in-Err.refusal refused in
    record {
      steps = subst (StepsOrMemory s request reply) (sym same) (refused_steps s request reply tt refuses);
      wanting = refused_rightly s request reply refusal;
      fits = tt;
    }
