use Rattle.std.proofs.Common.{subst}
use Rattle.event_frames.specs.Reader.{Answers}
use Rattle.commands.proofs.ScriptPrints.{replies_to, returns_request, takes_frame}
use Rattle.commands.proofs.script_command.reply_to_any.Goals as goal

-- a frame is always read
pub request_in-requires : goal.request_in-requires
request_in-requires c =
    let (request, fits, is) = c.requires.frame in
    returns_request c.args.reader.now c.next.new.self c.next.result request fits is c.requires.faultless c.next.ensures.answers

pub returns : goal.returns
returns c =
    let old = c.args.reader.now in
    let new = c.next.new.self in
    let given = c.request_in.result in
    let takes = subst (λ x. Answers old x new) c.request_in.ensures c.next.ensures.answers in
    let (request, fits, is) = c.requires.frame in
    record {
      replied = replies_to old new given c.args.book.now.state c.call.new.self.state c.call.result takes c.call.ensures.steps c.call.ensures.wanting;
      read = (takes_frame old new given request fits is takes).1;
      same = takes.same;
    }
