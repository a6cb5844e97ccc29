use Rattle.std.proofs.Common.{◌≡◌, sym, subst, ◌∙◌, ap}
use Rattle.trace_model.specs.declared.messages.session.Reply.{Reply}
use Rattle.trace_model.specs.declared.messages.session.Reply.TheVariants as replies
use Rattle.trace_model.specs.declared.messages.session.Request.TheVariants.{Batch}
use Rattle.sequencer.specs.declared.batching.Batched.{Batched}
use Rattle.desk.specs.Clients.{RepliesAfter}
use Rattle.desk.proofs.Responses.{response, response_batch}
use Rattle.desk.proofs.client.Client.offer_batch.Goals as goal

pub returns-clause-response : goal.returns-clause-response
returns-clause-response g c =
    let got = c.offer_batch-response.result in
    let reply : replies.Batched got.0.accepted got.0.refusal got.0.length ≡ c.reply.result =
    ap (λ (b : Batched). replies.Batched b.accepted b.refusal b.length) (sym c.learn.ensures.answer) ∙ sym c.reply.ensures in
    response g.N.HistoryId.limit c.args.self.now c.learn.new.self (Batch c.args.events.now) c.reply.result got.1 c.learn.ensures.later c.learn.ensures.seen c.learn.ensures.entered
    (subst (λ (r : Reply). RepliesAfter g.N.HistoryId.limit (Batch c.args.events.now) r got.1) reply
    (response_batch g.N.HistoryId.limit got.1 c.args.events.now got.0 c.requires c.offer_batch-response.ensures.batched))
