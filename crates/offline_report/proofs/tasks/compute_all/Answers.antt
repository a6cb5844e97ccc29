use Rattle.std.proofs.Common.{length, subst}
use Rattle.rayon.proofs.ListFacts.{IfOk-then}
use Rattle.trace_model.specs.Theory.Dependencies.{dependencies}
use Rattle.offline_report.specs.Gathering.{AreGathered}
use Rattle.offline_report.specs.Offline.{IsTaskWithin}
use Rattle.offline_report.proofs.Collected.{collected}
use Rattle.offline_report.proofs.tasks.compute_all.Goals as goal

pub returns : goal.returns
returns g c =
    let s = g.A.About.events in
    let n = length (dependencies s) in
    let may_give = IsTaskWithin s g.A.About.bound g.A.About.limit in
    IfOk-then c.gather.result _ _ c.gather.ensures (λ v h.
    collected s g.A.About.bound g.A.About.limit n v (subst (λ tasks. AreGathered may_give tasks v) c.requires.tasks h))
