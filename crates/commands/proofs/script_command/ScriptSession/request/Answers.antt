use Rattle.std.proofs.Common.{ap, ◌∙◌}
use Rattle.std.proofs.lemmas.Result.{on_ok_weaker}
use Rattle.commands.specs.Script.{reply_text}
use Rattle.commands.specs.ScriptTells.{IsReplyTo}
use Rattle.commands.proofs.Outputs.{cut_part, on_err}
use Rattle.commands.proofs.ScriptPrints.{fed_frame, replied}
use Rattle.commands.proofs.script_command.ScriptSession.request.Goals as goal

pub returns-clause-printed : goal.returns-clause-printed
returns-clause-printed g c =
    let self = c.args.self.now in
    let fed = c.in_ok-feed.ensures.fed in
    let reply = c.reply_to_next-reply.result in
    on_ok_weaker c.write-written.result (λ grew. λ request fits is.
    let rest = fed_frame self.reader c.feed.new.self c.args.bytes.now request self.read self.faultless fed is in
    (reply_text reply, replied self.book.state c.reply_to_next-reply.new.book.state c.write-written.new.self.book.state request reply (c.reply_to_next-reply.ensures.replied request fits rest) (ap (λ b. b.state) c.write-written.ensures.book), grew)
    ) c.write-written.ensures.written

pub returns-clause-cut : goal.returns-clause-cut
returns-clause-cut g c =
    let self = c.args.self.now in
    let fed = c.in_ok-feed.ensures.fed in
    let reply = c.reply_to_next-reply.result in
    let next = c.write-written.new.self.book.state in
    let before = g.O.Write.contents c.args.out.now in
    let after = g.O.Write.contents c.write-written.new.out in
    on_err c.write-written.result _ _ (λ part. λ request fits is.
    let rest = fed_frame self.reader c.feed.new.self c.args.bytes.now request self.read self.faultless fed is in
    cut_part before after (IsReplyTo self.book.state request) (reply_text reply) (next, replied self.book.state c.reply_to_next-reply.new.book.state next request reply (c.reply_to_next-reply.ensures.replied request fits rest) (ap (λ b. b.state) c.write-written.ensures.book)) part
    ) c.write-written.ensures.cut

-- the reader has one frame
pub reply_to_next-reply-requires : goal.reply_to_next-reply-requires
reply_to_next-reply-requires g c =
    let self = c.args.self.now in
    let fed = c.in_ok-feed.ensures.fed in
    let (request, fits, is) = c.requires in
    record {
      frame = (request, fits, fed_frame self.reader c.feed.new.self c.args.bytes.now request self.read self.faultless fed is);
      faultless = fed.0 ∙ self.faultless;
    }

-- every byte is read
pub invariant_of-self-2 : goal.invariant_of-self-2
invariant_of-self-2 g c =
    let self = c.args.self.now in
    let left = c.reply_to_next-reply.ensures in
    record {
      «open» = left.same.1 ∙ c.in_ok-feed.ensures.fed.1 ∙ self.open;
      read = left.read;
      faultless = left.same.0;
    }
