use Rattle.std.proofs.Common.{◌≡◌, [], ◌∷◌, ◌++◌, inr, refl, ap, ◌∙◌}
use Rattle.trace_model.specs.declared.messages.step.BoardStep.TheVariants.{Open}
use Rattle.trace_model.specs.declared.messages.session.Request.TheVariants.{Ask}
use Rattle.trace_model.specs.declared.messages.session.Reply.TheVariants.{Refused}
use Rattle.trace_model.specs.declared.refusal.Refusal.TheVariants.{NoMemory}
use Rattle.trace_model.specs.Protocol.Machine.{step}
use Rattle.sequencer.specs.Book.{Refuses, ask_refusal, opened_reply}
use Rattle.sequencer.specs.Printing.{report_printer}
use Rattle.sequencer.specs.declared.asking.AskRefused.TheVariants as NoAsk
use Rattle.sequencer.proofs.QuestionAnswers.{refused_ask}
use Rattle.desk.proofs.Steps.{Moves, goes, kept_on, legal_next, stays, steps_ask, takes_ask}
use Rattle.desk.proofs.locked.Locked.ask.Goals as goal
use Rattle.desk.proofs.locked.Locked.ask.Goals.{After-record_question}
use Rattle.desk.proofs.locked.Locked.ask.Given.{Over}

taken : (g : Over) (c : After-record_question g) →
    Moves g.N.HistoryId.limit c.self.inside.board.published c.self.inside.board.waiting (c.grow.new.self.published ++ c.grow.new.self.waiting) c.self.inside.book.state c.record_question.new.self.state (Open c.args.bound c.preview-opened.result.total)
taken g c =
    let opened = c.preview-opened.result in
    let asked = c.in-Ok.ensures in
    record {
      kept = c.self.invariant;
      takes = takes_ask c.self.inside.book.state c.reserve_question.new.self.state c.record_question.new.self.state c.args.bound c.in-Ok.asked.bound opened asked.shown asked.ok.0 asked.allowed c.preview-opened.ensures c.record_question.ensures;
      is = λ i. c.in-Ok-grow.ensures.published i ++ (c.in-Ok-grow.ensures.waiting ∙ ap (λ n. Open n opened.total ∷ []) (c.bound.ensures ∙ asked.ok.0)) i;
    }

pub publish-requires-clause-legal : goal.publish-requires-clause-legal
publish-requires-clause-legal g c = legal_next (taken g (goal.at.publish-requires-clause-legal g c).After-record_question)

pub invariant_of-self-2 : goal.invariant_of-self-2
invariant_of-self-2 g c = kept_on (taken g (goal.at.invariant_of-self-2 g c).After-record_question) _ _ c.publish.ensures.published c.publish.ensures.waiting

pub returns-in-Err : goal.returns-in-Err
returns-in-Err g c =
    let b = c.self.inside.board in
    let s = c.self.inside.book.state in
    let refused = c.in-Err.refused in
    let it = stays g.N.HistoryId.limit b.published b.waiting _ s _ _ (λ x. Refuses x (Ask c.args.bound) (Refused (ask_refusal refused))) c.self.invariant c.self.view_is refl c.in-Err.ensures.shown
    (refused_ask s c.args.bound refused c.in-Err.ensures.refused).0 in
    record { before = it.before; after = it.after; opened = tt; published = tt; refused = it.is; same = it.same; receipt = c.receipt.ensures; legal = it.legal }

pub returns-in_default : goal.returns-in_default
returns-in_default g c =
    let b = c.self.inside.board in
    let s = c.self.inside.book.state in
    let it = stays g.N.HistoryId.limit b.published b.waiting _ s _ _ (λ x. Refuses x (Ask c.args.bound) (Refused NoMemory)) c.self.invariant c.self.view_is c.in_default.ensures.published c.in-Ok.ensures.shown
    (refused_ask s c.args.bound NoAsk.NoMemory (inr (refl, c.in-Ok.ensures.allowed))).0 in
    record { before = it.before; after = it.after; opened = tt; published = tt; refused = it.is; same = it.same; receipt = c.receipt-in_default.ensures; legal = it.legal }

pub returns : goal.returns
returns g c =
    let next = c.record_question.new.self.state in
    let bound = c.args.bound in
    let opened = c.preview-opened.result in
    let it = goes (taken g (goal.at.returns g c).After-record_question) _ _ _ (λ x. step report_printer x (Ask bound) ≡ (opened_reply opened, next)) c.self.view_is c.publish.ensures.published c.publish.ensures.waiting
    (steps_ask c.self.inside.book.state c.reserve_question.new.self.state next bound c.in-Ok.asked.bound opened c.in-Ok.ensures.shown c.in-Ok.ensures.ok.0 c.in-Ok.ensures.allowed c.preview-opened.ensures c.record_question.ensures) in
    record { before = it.before; after = it.after; opened = it.is; published = it.published; refused = tt; same = tt; receipt = c.publish.ensures.receipt; legal = it.legal }
