use Rattle.std.proofs.Common.{sym, ◌∙◌}
use Rattle.trace_model.specs.declared.messages.session.Request.TheVariants.{Offer}
use Rattle.desk.proofs.Responses.{response, response_placed, response_unplaced}
use Rattle.desk.proofs.client.Client.offer.Goals as goal

pub returns-in-Ok-clause-response : goal.returns-in-Ok-clause-response
returns-in-Ok-clause-response g c =
    let got = c.offer-response.result in
    response g.N.HistoryId.limit c.args.self.now c.learn.new.self (Offer c.args.event) _ c.offer-response.result.1 c.learn.ensures.later c.learn.ensures.seen c.learn.ensures.entered
    (response_placed g.N.HistoryId.limit got.1 c.args.event got.0 c.in-Ok.place (sym c.learn.ensures.answer ∙ c.in-Ok.is) c.offer-response.ensures.placed)

pub returns-in-Err-clause-response : goal.returns-in-Err-clause-response
returns-in-Err-clause-response g c =
    let got = c.offer-response.result in
    response g.N.HistoryId.limit c.args.self.now c.learn.new.self (Offer c.args.event) _ c.offer-response.result.1 c.learn.ensures.later c.learn.ensures.seen c.learn.ensures.entered
    (response_unplaced g.N.HistoryId.limit got.1 c.args.event got.0 c.in-Err.refusal (sym c.learn.ensures.answer ∙ c.in-Err.is) c.offer-response.ensures.refused)
