use Rattle.std.proofs.Common.{ℕ, List, Ok, ap, ◌∙◌, subst}
use Rattle.std.proofs.lemmas.Result.{err_from_is_err_and}
use Rattle.trace_model.specs.declared.messages.session.Request.{Request}
use Rattle.event_frames.specs.Reader.{Answers, Tells, HasRead}
use Rattle.sequencer.specs.Answered.{reply_in}
use Rattle.sessions.specs.Serving.{IsCountedFault}
use Rattle.sessions.proofs.Answering.{answered_one, broken_reply, answered_all, answered_fault, broken_fault, frame_positive}
use Rattle.sessions.proofs.serving.answer_all.Goals as goal

pub loop-request-smaller : goal.loop-request-smaller
loop-request-smaller g c =
    let r = c.in-Ok-Some.is ∙ ap Ok c.in-Ok-Some.field-0-is in
    let t = subst (λ x. Answers c.loop-request.reader x c.next.new.self) r c.next.ensures.answers in
    frame_positive c.loop-request.reader.rest c.in-Ok-Some.request c.next.new.self.rest t.leading

pub loop-request-preserved : goal.loop-request-preserved
loop-request-preserved g c =
    let r = c.in-Ok-Some.is ∙ ap Ok c.in-Ok-Some.field-0-is in
    let t = subst (λ x. Answers c.loop-request.reader x c.next.new.self) r c.next.ensures.answers in
    let w = subst (λ x. (text : List ℕ) (given : List Request) → HasRead text given c.loop-request.reader → Tells text given c.loop-request.reader.ended x c.next.new.self) r c.next.ensures.grammar in
    answered_one g.C.Calls.steps c.args.calls.now c.args.reader.now (g.K.Sink.written c.args.sink.now) (g.K.Sink.failures c.args.sink.now) c.loop-request.calls c.loop-request.reader (g.K.Sink.written c.loop-request.sink) (g.K.Sink.failures c.loop-request.sink) c.in-Ok-Some.request c.next.new.self (reply_in c.call-reply.result) c.call-reply.new.self (g.K.Sink.written c.reply_with.new.sink) (g.K.Sink.failures c.reply_with.new.sink) c.loop-request.invariant t w c.call-reply.ensures.step c.in_ok-reply_with-in-Ok-Some.ensures.ok c.in_ok-reply_with-in-Ok-Some.ensures.same

pub returns-in-Ok-None : goal.returns-in-Ok-None
returns-in-Ok-None g c =
    let r = c.in-Ok-None.is ∙ ap Ok c.in-Ok-None.field-0-is in
    let t = subst (λ x. Answers c.loop-request.reader x c.next.new.self) r c.next.ensures.answers in
    let w = subst (λ x. (text : List ℕ) (given : List Request) → HasRead text given c.loop-request.reader → Tells text given c.loop-request.reader.ended x c.next.new.self) r c.next.ensures.grammar in
    record {
      ok = answered_all g.C.Calls.steps c.args.calls.now c.args.reader.now (g.K.Sink.written c.args.sink.now) (g.K.Sink.failures c.args.sink.now) c.loop-request.calls c.loop-request.reader (g.K.Sink.written c.loop-request.sink) (g.K.Sink.failures c.loop-request.sink) c.next.new.self c.loop-request.invariant t w;
      err = tt;
      same = c.loop-request.invariant.same;
      counted = tt;
    }

pub returns-in_err-reply_with-in-Ok-Some : goal.returns-in_err-reply_with-in-Ok-Some
returns-in_err-reply_with-in-Ok-Some g c =
    let r = c.in-Ok-Some.is ∙ ap Ok c.in-Ok-Some.field-0-is in
    let t = subst (λ x. Answers c.loop-request.reader x c.next.new.self) r c.next.ensures.answers in
    let p = err_from_is_err_and c.from_residual.result c.from_residual.ensures.1 in
    let b = c.in_err-reply_with-in-Ok-Some.ensures.err in
    rw p.1 (record {
      ok = tt;
      err = broken_reply g.C.Calls.steps c.args.calls.now c.args.reader.now (g.K.Sink.written c.args.sink.now) (g.K.Sink.failures c.args.sink.now) c.loop-request.calls c.loop-request.reader (g.K.Sink.written c.loop-request.sink) (g.K.Sink.failures c.loop-request.sink) c.in-Ok-Some.request c.next.new.self (reply_in c.call-reply.result) c.call-reply.new.self (g.K.Sink.written c.reply_with.new.sink) b.0 c.loop-request.invariant t c.call-reply.ensures.step b.1;
      same = tt;
      counted = rw p.2 (subst (λ n. IsCountedFault c.in_err-reply_with-in-Ok-Some.field-0.0 n (g.K.Sink.failures c.reply_with.new.sink)) c.loop-request.invariant.same c.in_err-reply_with-in-Ok-Some.ensures.counted);
    })

pub returns-in_err-reply_with-in-Err : goal.returns-in_err-reply_with-in-Err
returns-in_err-reply_with-in-Err g c =
    let t = subst (λ x. Answers c.loop-request.reader x c.next.new.self) c.in-Err.is c.next.ensures.answers in
    let p = err_from_is_err_and c.from_residual-in_err-reply_with-in-Err.result c.from_residual-in_err-reply_with-in-Err.ensures.1 in
    let b = c.in_err-reply_with-in-Err.ensures.err in
    rw p.1 (record {
      ok = tt;
      err = broken_fault g.C.Calls.steps c.args.calls.now c.args.reader.now (g.K.Sink.written c.args.sink.now) (g.K.Sink.failures c.args.sink.now) c.loop-request.calls c.loop-request.reader (g.K.Sink.written c.loop-request.sink) (g.K.Sink.failures c.loop-request.sink) c.in-Err.fault c.next.new.self (g.K.Sink.written c.reply_with-in-Err.new.sink) b.0 c.loop-request.invariant t b.1;
      same = tt;
      counted = rw p.2 (subst (λ n. IsCountedFault c.in_err-reply_with-in-Err.field-0.0 n (g.K.Sink.failures c.reply_with-in-Err.new.sink)) c.loop-request.invariant.same c.in_err-reply_with-in-Err.ensures.counted);
    })

pub returns-in-Err : goal.returns-in-Err
returns-in-Err g c =
    let t = subst (λ x. Answers c.loop-request.reader x c.next.new.self) c.in-Err.is c.next.ensures.answers in
    let w = subst (λ x. (text : List ℕ) (given : List Request) → HasRead text given c.loop-request.reader → Tells text given c.loop-request.reader.ended x c.next.new.self) c.in-Err.is c.next.ensures.grammar in
    record {
      ok = answered_fault g.C.Calls.steps c.args.calls.now c.args.reader.now (g.K.Sink.written c.args.sink.now) (g.K.Sink.failures c.args.sink.now) c.loop-request.calls c.loop-request.reader (g.K.Sink.written c.loop-request.sink) (g.K.Sink.failures c.loop-request.sink) c.in-Err.fault c.next.new.self (g.K.Sink.written c.reply_with-in-Err.new.sink) c.loop-request.invariant t w c.in_ok-reply_with-in-Err.ensures.ok;
      err = tt;
      same = c.in_ok-reply_with-in-Err.ensures.same ∙ c.loop-request.invariant.same;
      counted = tt;
    }
