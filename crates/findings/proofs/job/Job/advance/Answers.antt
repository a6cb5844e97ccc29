use Rattle.std.proofs.Common.{sym, subst}
use Rattle.std.specs.Option.{ForSome}
use Rattle.trace_model.specs.Theory.Dependencies.{dependencies}
use Rattle.cycle_search.specs.Pausing.{IsSearchOf}
use Rattle.findings.specs.Analyses.{AnalysisView, IsScratchOf}
use Rattle.findings.specs.Found.{AskedQuestion}
use Rattle.findings.proofs.job.Job.advance.Goals as goal

pub advanced_by-requires-clause-scratch : goal.advanced_by-requires-clause-scratch
advanced_by-requires-clause-scratch c = subst (λ (a : AnalysisView). ForSome c.self.inside.scratch (IsScratchOf a.events a.requirements)) (sym c.deref.ensures) c.self.invariant

pub invariant_of-self : goal.invariant_of-self
invariant_of-self c =
    subst (λ (a : AnalysisView). ForSome c.advanced_by.new.scratch (IsScratchOf a.events a.requirements)) c.deref.ensures c.advanced_by.ensures.scratch

pub advanced_by-requires-clause-search : goal.advanced_by-requires-clause-search
advanced_by-requires-clause-search c begun is =
    let task = c.args.search.task in
    subst (λ (a : AnalysisView). IsSearchOf (dependencies a.events) a.bound task begun) (sym c.deref.ensures)
    (subst (λ (q : AskedQuestion). IsSearchOf (dependencies q.events) q.bound task begun) (sym c.self.view_is) (c.requires.search begun is))
