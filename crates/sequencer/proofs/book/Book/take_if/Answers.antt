use Rattle.std.proofs.Common.{refl, sym, ap, ◌∙◌}
use Rattle.std.specs.Prelude.{Option}
use Rattle.std.specs.Result.{result_err}
use Rattle.trace_model.specs.declared.refusal.Refusal.{Refusal}
use Rattle.trace_model.specs.Protocol.Machine.{deliver_next}
use Rattle.sequencer.specs.Book.{findings_rows}
use Rattle.sequencer.proofs.book.Book.take_if.Goals as goal

pub take-requires : goal.take-requires
take-requires c = sym c.requires ∙ ap result_err c.in-Ok.is

pub returns-in-Ok : goal.returns-in-Ok
returns-in-Ok c = record { machine = c.take.ensures.machine; back = tt; exact = c.take.ensures.exact }

pub returns-in-Err : goal.returns-in-Err
returns-in-Err c =
    let s = c.args.self.now.state in
    let f = c.args.finding in
    record {
      machine = ap (λ (o : Option Refusal). (o, deliver_next s f.question f.task (findings_rows f) o)) (sym c.requires ∙ ap result_err c.in-Err.is);
      back = refl;
      exact = tt;
    }
