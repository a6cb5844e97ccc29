use Rattle.std.proofs.Common.{sym, ap, ◌∙◌, subst}
use Rattle.trace_model.specs.declared.messages.session.Request.TheVariants.{Offer}
use Rattle.event_frames.specs.Reader.{FrameReaderView}
use Rattle.commands.specs.ScriptTells.{IsFrame, RepliesToFrame}
use Rattle.commands.proofs.ScriptPrints.{replies_to, takes_frame}
use Rattle.commands.proofs.script_command.reply_to_next.Goals as goal

pub returns-in-Some : goal.returns-in-Some
returns-in-Some c =
    let old = c.args.reader.now in
    let new = c.next_offer.new.self in
    let given = Offer c.in-Some.event in
    let takes = c.in-Some.ensures.taken in
    let (request, fits, is) = c.requires.frame in
    record {
      replied = replies_to old new given c.args.book.now.state c.call_offer.new.self.state c.call_offer.result takes c.call_offer.ensures.steps c.call_offer.ensures.wanting;
      read = (takes_frame old new given request fits is takes).1;
      same = takes.same;
    }

pub returns-in-None : goal.returns-in-None
returns-in-None c =
    let kept = c.in-None.ensures.none.1 in
    let left = c.reply_to_any.ensures in
    record {
      replied = subst (λ (r : FrameReaderView). RepliesToFrame r.rest c.args.book.now.state c.reply_to_any.result c.reply_to_any.new.book.state) kept left.replied;
      read = left.read;
      same = (left.same.0, left.same.1 ∙ ap (λ (r : FrameReaderView). r.ended) kept);
    }

pub reply_to_any-requires : goal.reply_to_any-requires
reply_to_any-requires c =
    let kept = c.in-None.ensures.none.1 in
    record {
      frame = subst (λ (r : FrameReaderView). IsFrame r.rest) (sym kept) c.requires.frame;
      faultless = ap (λ (r : FrameReaderView). r.returned) kept ∙ c.requires.faultless;
    }
