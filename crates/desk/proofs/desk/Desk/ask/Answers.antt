use Rattle.std.proofs.Common.{◌≡◌, sym, subst}
use Rattle.trace_model.specs.declared.messages.session.Reply.TheVariants.{Refused}
use Rattle.trace_model.specs.declared.messages.session.Request.TheVariants.{Ask}
use Rattle.trace_model.specs.declared.messages.step.BoardStep.TheVariants.{Open}
use Rattle.trace_model.specs.Protocol.Machine.{step}
use Rattle.trace_model.specs.Protocol.Runs.{IsLegal}
use Rattle.sequencer.specs.declared.asking.Opened.{Opened}
use Rattle.sequencer.specs.Book.{Refuses, ask_refusal, opened_reply}
use Rattle.sequencer.specs.Printing.{report_printer}
use Rattle.desk.proofs.Outcome.{ended_by, refused_after}
use Rattle.desk.proofs.desk.Desk.ask.Goals as goal

pub returns : goal.returns
returns g c =
    let limit = g.N.HistoryId.limit in
    let old = c.deref_mut.result.now in
    let new = c.ask.new.self in
    let response = c.ask.result in
    let a = c.ask.ensures in
    let bound = c.args.bound in
    record {
      opened = ended_by limit old new response.1 response.0 (λ (opened : Opened). Open bound opened.total) (λ opened state next. step report_printer state (Ask bound) ≡ (opened_reply opened, next)) a.before a.after a.receipt a.published a.opened;
      refused = refused_after limit old new response.1 response.0 (λ refused state. Refuses state (Ask bound) (Refused (ask_refusal refused))) a.before a.receipt a.same a.refused;
      legal = subst IsLegal (sym a.receipt) a.legal;
    }
