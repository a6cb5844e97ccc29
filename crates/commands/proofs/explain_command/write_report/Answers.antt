use Rattle.std.proofs.Common.{subst, sym}
use Rattle.trace_model.specs.Theory.Trace.{Trace}
use Rattle.offline_report.specs.Offline.{IsReportRows}
use Rattle.commands.specs.Explain.{PrintsAllOf}
use Rattle.commands.specs.Output.{EndsWithResult}
use Rattle.commands.proofs.explain_command.write_report.Goals as goal

pub returns-in-Ok : goal.returns-in-Ok
returns-in-Ok g c =
    let before = g.O.Write.contents c.args.out.now in
    let after = g.O.Write.contents c.write_found.new.out in
    let bound = c.args.offline.now.bound in
    let are = subst (λ (s : Trace). IsReportRows s bound c.in-Ok.found) (sym c.snapshot.ensures) c.in-Ok.ensures.rows in
    subst (λ (s : Trace). EndsWithResult (PrintsAllOf s bound) ⊥ c.write_found.result before after) c.snapshot.ensures (c.write_found.ensures bound are)
