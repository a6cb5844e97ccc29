use Rattle.std.proofs.Common.{sym, ◌∙◌}
use Rattle.trace_model.specs.declared.messages.session.Request.TheVariants.{Ask}
use Rattle.desk.proofs.Responses.{response, response_opened, response_unopened}
use Rattle.desk.proofs.client.Client.ask.Goals as goal

pub returns-in-Ok-clause-response : goal.returns-in-Ok-clause-response
returns-in-Ok-clause-response g c =
    let got = c.ask-response.result in
    response g.N.HistoryId.limit c.args.self.now c.learn.new.self (Ask c.args.bound) _ c.ask-response.result.1 c.learn.ensures.later c.learn.ensures.seen c.learn.ensures.entered
    (response_opened g.N.HistoryId.limit got.1 c.args.bound got.0 c.in-Ok.opened c.reply.result (sym c.learn.ensures.answer ∙ c.in-Ok.is) c.reply.ensures c.ask-response.ensures.opened)

pub returns-in-Err-clause-response : goal.returns-in-Err-clause-response
returns-in-Err-clause-response g c =
    let got = c.ask-response.result in
    response g.N.HistoryId.limit c.args.self.now c.learn.new.self (Ask c.args.bound) _ c.ask-response.result.1 c.learn.ensures.later c.learn.ensures.seen c.learn.ensures.entered
    (response_unopened g.N.HistoryId.limit got.1 c.args.bound got.0 c.in-Err.refused c.refusal.result (sym c.learn.ensures.answer ∙ c.in-Err.is) c.refusal.ensures c.ask-response.ensures.refused)
