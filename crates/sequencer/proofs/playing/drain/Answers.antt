use Rattle.std.proofs.Common.{ℕ, List, Ok, sym, ap, ◌∙◌, subst}
use Rattle.std.proofs.lemmas.Result.{on_ok_weaker}
use Rattle.trace_model.specs.declared.messages.session.Request.{Request}
use Rattle.event_frames.specs.Reader.{Answers, Tells, HasRead}
use Rattle.sequencer.proofs.Called.{steps_exactly}
use Rattle.sequencer.proofs.Drained.{goes_on, stops, fails}
use Rattle.sequencer.proofs.Framed.{frame_positive}
use Rattle.sequencer.proofs.playing.drain.Goals as goal

pub loop-request-smaller : goal.loop-request-smaller
loop-request-smaller c =
    let r = c.in-Ok-Some.is ∙ ap Ok c.in-Ok-Some.field-0-is in
    let t = subst (λ x. Answers c.loop-request.reader x c.next.new.self) r c.next.ensures.answers in
    frame_positive c.loop-request.reader.rest c.in-Ok-Some.request c.next.new.self.rest t.leading

pub loop-request-preserved : goal.loop-request-preserved
loop-request-preserved c =
    let r = c.in-Ok-Some.is ∙ ap Ok c.in-Ok-Some.field-0-is in
    let t = subst (λ x. Answers c.loop-request.reader x c.next.new.self) r c.next.ensures.answers in
    let w = subst (λ x. (text : List ℕ) (given : List Request) → HasRead text given c.loop-request.reader → Tells text given c.loop-request.reader.ended x c.next.new.self) r c.next.ensures.grammar in
    goes_on c.args.book.now.state c.args.reader.now c.args.sent.now.items c.loop-request.book.state c.loop-request.reader c.loop-request.sent.items c.in-Ok-Some.request c.next.new.self c.call-reply.new.self.state c.call-reply.result c.send.new.sent.items c.loop-request.invariant t w
    (steps_exactly c.loop-request.book.state c.call-reply.new.self.state c.in-Ok-Some.request c.call-reply.result c.call-reply.ensures.steps (sym c.lacks_memory.ensures ∙ c.if-lacks_memory.false)) c.in_ok-send-in-Ok-Some.ensures

pub returns-in-Ok-None : goal.returns-in-Ok-None
returns-in-Ok-None c =
    let r = c.in-Ok-None.is ∙ ap Ok c.in-Ok-None.field-0-is in
    let t = subst (λ x. Answers c.loop-request.reader x c.next.new.self) r c.next.ensures.answers in
    let w = subst (λ x. (text : List ℕ) (given : List Request) → HasRead text given c.loop-request.reader → Tells text given c.loop-request.reader.ended x c.next.new.self) r c.next.ensures.grammar in
    stops c.args.book.now.state c.args.reader.now c.args.sent.now.items c.loop-request.book.state c.loop-request.reader c.loop-request.sent.items c.next.new.self c.loop-request.invariant t w

pub returns-in-Err : goal.returns-in-Err
returns-in-Err c =
    let t = subst (λ x. Answers c.loop-request.reader x c.next.new.self) c.in-Err.is c.next.ensures.answers in
    let w = subst (λ x. (text : List ℕ) (given : List Request) → HasRead text given c.loop-request.reader → Tells text given c.loop-request.reader.ended x c.next.new.self) c.in-Err.is c.next.ensures.grammar in
    on_ok_weaker c.send-in-Err.result (λ e. fails c.args.book.now.state c.args.reader.now c.args.sent.now.items c.loop-request.book.state c.loop-request.reader c.loop-request.sent.items c.in-Err.fault c.next.new.self c.send-in-Err.new.sent.items c.loop-request.invariant t w e) c.send-in-Err.ensures
