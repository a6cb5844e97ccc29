use Rattle.std.proofs.Common.{subst}
use Rattle.findings.specs.Found.{AskedQuestion}
use Rattle.commands.specs.Explain.{PrintsAllOf}
use Rattle.commands.specs.Output.{EndsWithResult}
use Rattle.commands.proofs.explain_command.write_all.Goals as goal

pub returns : goal.returns
returns g c =
    let before = g.O.Write.contents c.args.out.now in
    let after = g.O.Write.contents c.write_report.new.out in
    subst (λ (q : AskedQuestion). EndsWithResult (PrintsAllOf q.events q.bound) ⊥ c.write_report.result before after) c.of-offline.ensures c.write_report.ensures
