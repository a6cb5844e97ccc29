use Rattle.std.proofs.Common.{sym, subst}
use Rattle.std.specs.Option.{ForSome}
use Rattle.findings.specs.Analyses.{AnalysisView, IsScratchOf}
use Rattle.findings.proofs.job.Job.collect.Goals as goal

pub collected_by-requires-clause-scratch : goal.collected_by-requires-clause-scratch
collected_by-requires-clause-scratch g c = subst (λ (a : AnalysisView). ForSome c.self.inside.scratch (IsScratchOf a.events a.requirements)) (sym c.deref.ensures) c.self.invariant

pub invariant_of-self : goal.invariant_of-self
invariant_of-self g c =
    subst (λ (a : AnalysisView). ForSome c.collected_by.new.scratch (IsScratchOf a.events a.requirements)) c.deref.ensures c.collected_by.ensures.scratch
