use Rattle.std.proofs.Common.{sym, ◌∙◌}
use Rattle.trace_model.specs.declared.messages.session.Request.TheVariants.{Answer}
use Rattle.desk.proofs.Responses.{response, response_answer, response_no_answer}
use Rattle.desk.proofs.client.Client.answer.Goals as goal

pub returns-in-Ok-clause-response : goal.returns-in-Ok-clause-response
returns-in-Ok-clause-response g c =
    let got = c.answer-response.result in
    response g.N.HistoryId.limit c.args.self.now c.learn.new.self (Answer c.args.question) _ c.answer-response.result.1 c.learn.ensures.later c.learn.ensures.seen c.learn.ensures.entered
    (response_answer g.N.HistoryId.limit got.1 c.args.question got.0 c.in-Ok.answered (sym c.learn.ensures.answer ∙ c.in-Ok.is) c.answer-response.ensures.response)

pub returns-in-Err-clause-response : goal.returns-in-Err-clause-response
returns-in-Err-clause-response g c =
    let got = c.answer-response.result in
    response g.N.HistoryId.limit c.args.self.now c.learn.new.self (Answer c.args.question) _ c.answer-response.result.1 c.learn.ensures.later c.learn.ensures.seen c.learn.ensures.entered
    (response_no_answer g.N.HistoryId.limit got.1 c.args.question got.0 c.in-Err.refused c.refusal.result (sym c.learn.ensures.answer ∙ c.in-Err.is) c.refusal.ensures c.answer-response.ensures.refused)
