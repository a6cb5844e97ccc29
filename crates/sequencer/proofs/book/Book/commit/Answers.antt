use Rattle.std.proofs.Common.{◌≡◌, sym, ap, subst, ◌∙◌}
use Rattle.trace_model.specs.Protocol.Machine.{step}
use Rattle.trace_model.specs.declared.messages.session.Request.{Request}
use Rattle.trace_model.specs.declared.messages.session.Request.TheVariants.{Offer}
use Rattle.trace_model.specs.declared.messages.session.Reply.{Reply}
use Rattle.sequencer.specs.Book.{HasChangeRoom, StepView, change_request}
use Rattle.sequencer.specs.declared.step.Change.{Change}
use Rattle.sequencer.specs.declared.step.Change.TheVariants.{Accept, Open}
use Rattle.sequencer.specs.Printing.{report_printer}
use Rattle.sequencer.proofs.QuestionAnswers.{accepted_ask, accepted_offer, taken_ask, taken_offer}
use Rattle.sequencer.proofs.book.Book.commit.Goals as goal

pub record_event-requires : goal.record_event-requires
record_event-requires c =
    let s = c.args.self.now in
    let change : c.args.planned.change ≡ Accept c.in-Accept.event = ap (λ (p : StepView). p.change) (sym c.planned.view_is) ∙ c.in-Accept.is in
    record {
      reserved = subst (HasChangeRoom s) change c.requires.room;
      lawful = accepted_offer s.state c.in-Accept.event c.args.planned.reply (ap (λ (h : Change). (step report_printer s.state (change_request h)).0) (sym change) ∙ c.requires.reply_is) c.requires.accepted;
    }

pub record_question-requires : goal.record_question-requires
record_question-requires c =
    let s = c.args.self.now in
    let asked = c.in-Open.asked in
    let change : c.args.planned.change ≡ Open asked = ap (λ (p : StepView). p.change) (sym c.planned.view_is) ∙ c.in-Open.is in
    let room : HasChangeRoom s (Open asked) = subst (HasChangeRoom s) change c.requires.room in
    record {
      room = room.0;
      allowed = accepted_ask s.state asked.bound c.args.planned.reply (ap (λ (h : Change). (step report_printer s.state (change_request h)).0) (sym change) ∙ c.requires.reply_is) c.requires.accepted;
      fresh = room.1;
    }

pub returns-in-Accept : goal.returns-in-Accept
returns-in-Accept c =
    let s = c.args.self.now.state in
    let asks : Offer c.in-Accept.event ≡ change_request c.args.planned.change =
    sym (ap (λ (p : StepView). change_request p.change) (sym c.planned.view_is) ∙ ap change_request c.in-Accept.is) in
    let reply : c.args.planned.reply ≡ c.planned.inside.reply = ap (λ (p : StepView). p.reply) (sym c.planned.view_is) in
    ap (step report_printer s) (sym asks)
    ∙ (taken_offer s c.record_event.new.self.state c.in-Accept.event c.args.planned.reply (ap (λ (r : Request). (step report_printer s r).0) asks ∙ c.requires.reply_is) c.requires.accepted c.record_event.ensures
    ∙ ap (λ (r : Reply). (r, c.record_event.new.self.state)) reply)

pub returns-in-Open : goal.returns-in-Open
returns-in-Open c =
    let s = c.args.self.now.state in
    let asked = c.in-Open.asked in
    let change : c.args.planned.change ≡ Open asked = ap (λ (p : StepView). p.change) (sym c.planned.view_is) ∙ c.in-Open.is in
    let reply : c.args.planned.reply ≡ c.planned.inside.reply = ap (λ (p : StepView). p.reply) (sym c.planned.view_is) in
    ap (λ (h : Change). step report_printer s (change_request h)) change
    ∙ (taken_ask s c.record_question.new.self.state asked.bound c.args.planned.reply (ap (λ (h : Change). (step report_printer s (change_request h)).0) (sym change) ∙ c.requires.reply_is) c.requires.accepted c.record_question.ensures
    ∙ ap (λ (r : Reply). (r, c.record_question.new.self.state)) reply)
