use Rattle.std.proofs.Common.{ℕ, subst}
use Rattle.std.specs.Arc.{arc_value}
use Rattle.trace_model.specs.Theory.Trace.{Trace}
use Rattle.findings.specs.Found.{AskedQuestion}
use Rattle.commands.specs.Offline.{ReportPrints}
use Rattle.commands.specs.Output.{EndsWithResult}
use Rattle.commands.proofs.offline_command.report_snapshot.Goals as goal

pub returns : goal.returns
returns g c =
    let before = g.O.Write.contents c.args.out.now in
    let after = g.O.Write.contents c.report_on.new.out in
    let r = c.report_on.result in
    let a = arc_value c.in_ok-analyze.field-0 in
    let printed = subst (λ (q : AskedQuestion). EndsWithResult (ReportPrints q.events q.bound) ⊥ r before after) c.of-offline.ensures c.report_on.ensures in
    subst (λ (s : Trace). EndsWithResult (ReportPrints s c.args.bound) ⊥ r before after) c.in_ok-analyze.ensures.0
    (subst (λ (b : ℕ). EndsWithResult (ReportPrints a.events b) ⊥ r before after) c.in_ok-analyze.ensures.1 printed)
