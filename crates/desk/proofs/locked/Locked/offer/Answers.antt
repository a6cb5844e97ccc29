use Rattle.std.proofs.Common.{◌≡◌, [], ◌∷◌, ◌++◌, inr, refl, ap, ◌∙◌}
use Rattle.trace_model.specs.declared.messages.step.BoardStep.TheVariants.{Accept}
use Rattle.trace_model.specs.declared.messages.session.Request.TheVariants.{Offer}
use Rattle.trace_model.specs.declared.messages.session.Reply.TheVariants.{Placed, Refused}
use Rattle.trace_model.specs.declared.refusal.Refusal.TheVariants.{NoMemory}
use Rattle.trace_model.specs.Protocol.Machine.{step}
use Rattle.sequencer.specs.Book.{Refuses}
use Rattle.sequencer.specs.Printing.{report_printer}
use Rattle.sequencer.proofs.QuestionAnswers.{refused_offer}
use Rattle.desk.proofs.Steps.{Moves, goes, kept_on, legal_next, stays, steps_offer, takes_offer}
use Rattle.desk.proofs.locked.Locked.offer.Goals as goal
use Rattle.desk.proofs.locked.Locked.offer.Goals.{After-record_event}
use Rattle.desk.proofs.locked.Locked.offer.Given.{Over}

taken : (g : Over) (c : After-record_event g) →
    Moves g.N.HistoryId.limit c.self.inside.board.published c.self.inside.board.waiting (c.grow.new.self.published ++ c.grow.new.self.waiting) c.self.inside.book.state c.record_event.new.self.state (Accept (c.args.event ∷ []))
taken g c = record {
  kept = c.self.invariant;
  takes = takes_offer c.self.inside.book.state c.reserve_event.new.self.state c.record_event.new.self.state c.args.event c.in_default.ensures.shown c.in_default.ensures.ok.1 c.record_event.ensures;
  is = λ i. c.in-Ok.ensures.published i ++ (c.in-Ok.ensures.waiting ∙ ap (λ es. Accept es ∷ []) c.of.ensures) i;
}

pub publish-requires-clause-legal : goal.publish-requires-clause-legal
publish-requires-clause-legal g c = legal_next (taken g (goal.at.publish-requires-clause-legal g c).After-record_event)

pub invariant_of-self-2 : goal.invariant_of-self-2
invariant_of-self-2 g c = kept_on (taken g (goal.at.invariant_of-self-2 g c).After-record_event) _ _ c.publish.ensures.published c.publish.ensures.waiting

pub returns-in-Err : goal.returns-in-Err
returns-in-Err g c =
    let b = c.self.inside.board in
    let s = c.self.inside.book.state in
    let refusal = c.in-Err.refusal in
    let it = stays g.N.HistoryId.limit b.published b.waiting _ s _ _ (λ x. Refuses x (Offer c.args.event) (Refused refusal)) c.self.invariant c.self.view_is refl c.in-Err.ensures.shown
    (refused_offer s c.args.event refusal c.in-Err.ensures.refused).0 in
    record { before = it.before; after = it.after; placed = tt; published = tt; refused = it.is; same = it.same; receipt = c.receipt.ensures; legal = it.legal }

pub returns-in_default-grow : goal.returns-in_default-grow
returns-in_default-grow g c =
    let b = c.self.inside.board in
    let s = c.self.inside.book.state in
    let it = stays g.N.HistoryId.limit b.published b.waiting _ s _ _ (λ x. Refuses x (Offer c.args.event) (Refused NoMemory)) c.self.invariant c.self.view_is c.in_default-grow.ensures.published c.in_default.ensures.shown
    (refused_offer s c.args.event NoMemory (inr (refl, c.in_default.ensures.ok.1))).0 in
    record { before = it.before; after = it.after; placed = tt; published = tt; refused = it.is; same = it.same; receipt = c.receipt-in_default-grow.ensures; legal = it.legal }

pub returns : goal.returns
returns g c =
    let next = c.record_event.new.self.state in
    let event = c.args.event in
    let place = c.new-place.result in
    let it = goes (taken g (goal.at.returns g c).After-record_event) _ _ _ (λ x. step report_printer x (Offer event) ≡ (Placed place, next)) c.self.view_is c.publish.ensures.published c.publish.ensures.waiting
    (steps_offer c.self.inside.book.state c.reserve_event.new.self.state next event place c.in_default.ensures.shown c.in_default.ensures.ok.1 (c.new-place.ensures ∙ c.len.ensures.value) c.record_event.ensures) in
    record { before = it.before; after = it.after; placed = it.is; published = it.published; refused = tt; same = tt; receipt = c.publish.ensures.receipt; legal = it.legal }
