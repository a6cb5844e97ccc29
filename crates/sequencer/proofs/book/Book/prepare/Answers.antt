use Rattle.std.proofs.Common.{refl, subst}
use Rattle.sequencer.specs.Called.{IsSingle}
use Rattle.sequencer.proofs.book.Book.prepare.Goals as goal

pub returns-in-Offer : goal.returns-in-Offer
returns-in-Offer c = rw c.in-Offer.is c.prepare_offer.ensures

pub returns-in-Ask : goal.returns-in-Ask
returns-in-Ask c = rw c.in-Ask.is c.prepare_ask.ensures

pub returns-in-Answer : goal.returns-in-Answer
returns-in-Answer c = rw c.in-Answer.is c.prepare_answer.ensures

pub returns-in-Status : goal.returns-in-Status
returns-in-Status c =
    let fact = c.prepare_status.ensures in
    rw c.in-Status.is (record { shown = refl; ok = fact.ok; refused = fact.refused; refusal = fact.refusal })

pub unreachable-requires : goal.unreachable-requires
unreachable-requires c = subst IsSingle c.in-Batch.is c.requires
