use Rattle.std.proofs.Common.{◌≡◌, inl, sym, ap, subst, ◌∙◌}
use Rattle.trace_model.specs.declared.messages.session.Reply.{Reply}
use Rattle.trace_model.specs.declared.messages.session.Request.{Request}
use Rattle.trace_model.specs.declared.messages.session.Request.TheVariants.{Batch}
use Rattle.trace_model.specs.Protocol.Machine.{State, step}
use Rattle.trace_model.specs.Protocol.Replies.{IsReply}
use Rattle.sequencer.specs.Book.{IsAccepted, change_request}
use Rattle.sequencer.specs.Called.{StepsOrMemory}
use Rattle.sequencer.specs.Printing.{report_printer}
use Rattle.sequencer.proofs.Called.{batch_steps, exact_steps, is_single, refused_rightly, refused_steps, step_fits}
use Rattle.sequencer.proofs.book.Book.call.Goals as goal

pub returns-in-Batch-clause-steps : goal.returns-in-Batch-clause-steps
returns-in-Batch-clause-steps c =
    let s = c.args.self.now.state in
    let next = c.offer_batch.new.self.state in
    let request_is : Batch c.events.result.now ≡ c.args.request.now = ap Batch c.events.ensures.value ∙ sym c.in-Batch.is in
    subst (λ (r : Request). StepsOrMemory s r c.reply.result next) request_is
    (subst (λ (r : Reply). StepsOrMemory s (Batch c.events.result.now) r next) (sym c.reply.ensures)
    (batch_steps s next c.events.result.now c.offer_batch.result c.offer_batch.ensures))

pub returns-in-Ok-clause-steps : goal.returns-in-Ok-clause-steps
returns-in-Ok-clause-steps c =
    exact_steps c.args.self.now.state c.commit.new.self.state c.args.request.now c.commit.result
    ((λ i. step report_printer (sym c.prepare.ensures.shown i) (sym c.in-Ok.ensures.ok.0 i)) ∙ c.commit.ensures)

pub returns-in-Err-clause-steps : goal.returns-in-Err-clause-steps
returns-in-Err-clause-steps c =
    let s = c.args.self.now.state in
    let reply = c.in-Err.reply in
    subst (StepsOrMemory s c.args.request.now reply) (sym c.prepare.ensures.shown)
    (refused_steps s c.args.request.now reply (is_single c.args.request.now c.in_default.not-Batch) c.in-Err.ensures.refused)

pub returns-in-Batch-clause-wanting : goal.returns-in-Batch-clause-wanting
returns-in-Batch-clause-wanting c = λ lacks. absurd (subst IsAccepted (sym c.reply.ensures ∙ lacks) tt)

pub returns-in-Ok-clause-wanting : goal.returns-in-Ok-clause-wanting
returns-in-Ok-clause-wanting c = λ lacks.
    inl (ap (λ (p : Reply × State). p.0) ((λ i. step report_printer (sym c.prepare.ensures.shown i) (sym c.in-Ok.ensures.ok.0 i)) ∙ c.commit.ensures))

pub returns-in-Err-clause-wanting : goal.returns-in-Err-clause-wanting
returns-in-Err-clause-wanting c = refused_rightly c.args.self.now.state c.args.request.now c.in-Err.reply c.in-Err.ensures.refusal

pub prepare-requires : goal.prepare-requires
prepare-requires c = is_single c.args.request.now c.in_default.not-Batch

pub commit-requires : goal.commit-requires
commit-requires c = c.in-Ok.ensures.ok.1

pub returns-in-Batch-clause-fits : goal.returns-in-Batch-clause-fits
returns-in-Batch-clause-fits c = subst IsReply (sym c.reply.ensures) tt

pub returns-in-Ok-clause-fits : goal.returns-in-Ok-clause-fits
returns-in-Ok-clause-fits c =
    let reply = ap (λ (p : Reply × State). p.0) c.commit.ensures in
    subst IsReply reply (step_fits c.prepare.new.self.state (change_request c.in-Ok.planned.change))

pub returns-in-Err-clause-fits : goal.returns-in-Err-clause-fits
returns-in-Err-clause-fits c = subst IsReply (sym c.in-Err.ensures.refusal.1) tt
