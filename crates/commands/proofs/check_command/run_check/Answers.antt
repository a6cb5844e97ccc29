use Rattle.std.proofs.Common.{inl, inr, sym, subst}
use Rattle.trace_model.specs.Theory.Trace.{Trace}
use Rattle.commands.specs.Check.{ChecksAs, IsNotExplained, IsWrongLine}
use Rattle.commands.specs.Admission.{AreLawfulEventsOf}
use Rattle.commands.proofs.Admissions.{admitted_ends, refused_ends}
use Rattle.commands.proofs.check_command.run_check.Goals as goal

pub returns-in-Err : goal.returns-in-Err
returns-in-Err g c =
    let trace = c.args.trace.bytes.now in
    let file = c.args.file.bytes.now in
    refused_ends (λ s. ChecksAs s file) (IsWrongLine trace file) trace c.in-Err.status (g.O.Write.contents c.args.out.now) (g.O.Write.contents c.admit.new.out) inl c.in-Err.ensures.refused

pub returns : goal.returns
returns g c =
    let trace = c.args.trace.bytes.now in
    let file = c.args.file.bytes.now in
    let events = c.deref.result.now in
    let are : AreLawfulEventsOf events trace = subst (λ (s : Trace). AreLawfulEventsOf s trace) (sym c.deref.ensures.value) c.in-Ok.ensures.admitted in
    admitted_ends (λ s. ChecksAs s file) (IsNotExplained file) (IsWrongLine trace file) trace events c.write_checked-ended.result c.reported.result (g.O.Write.contents c.args.out.now) (g.O.Write.contents c.admit.new.out) (g.O.Write.contents c.write_checked-ended.new.out)
    are (λ wrong. inr (events, are, wrong)) c.in-Ok.ensures.kept c.write_checked-ended.ensures c.reported.ensures
