use Rattle.std.proofs.Common.{◌≡◌, Err, IfOk, sym, subst}
use Rattle.std.specs.Option.{ForSome}
use Rattle.trace_model.specs.declared.limits.TheConstants.{MAX_CYCLES}
use Rattle.trace_model.specs.Theory.Dependencies.{dependencies}
use Rattle.cycle_search.specs.CycleSearch.{CycleFrom, MoreThan}
use Rattle.findings.specs.declared.computing.ComputeRefused.TheVariants.{TooManyCycles}
use Rattle.findings.specs.Analyses.{AnalysisView, IsScratchOf}
use Rattle.findings.specs.Found.{AskedQuestion}
use Rattle.findings.proofs.job.Job.compute.Goals as goal

pub finding_of-requires : goal.finding_of-requires
finding_of-requires c = record {
  scratch = subst (λ (a : AnalysisView). ForSome c.self.inside.scratch (IsScratchOf a.events a.requirements)) (sym c.deref.ensures) c.self.invariant;
}

pub invariant_of-self : goal.invariant_of-self
invariant_of-self c =
    subst (λ (a : AnalysisView). ForSome c.finding_of.new.scratch (IsScratchOf a.events a.requirements)) c.deref.ensures c.finding_of.ensures.scratch

pub returns : goal.returns
returns c =
    let r = c.finding_of.result in
    let task = c.args.task in
    let view = c.self.view_is in
    record {
      same = view;
      asked = subst (λ (q : AskedQuestion). IfOk r (λ f. (f.question ≡ q.question) × (f.bound ≡ q.bound) × (f.task ≡ task) × (f.events ≡ q.events))) view
          (subst (λ (a : AnalysisView). IfOk r (λ f. (f.question ≡ c.self.inside.question) × (f.bound ≡ a.bound) × (f.task ≡ task) × (f.events ≡ a.events))) c.deref.ensures
          c.finding_of.ensures.asked);
      too_many = subst (λ (q : AskedQuestion). r ≡ Err TooManyCycles → MoreThan (CycleFrom (dependencies q.events) q.bound task) MAX_CYCLES) view
          (subst (λ (a : AnalysisView). r ≡ Err TooManyCycles → MoreThan (CycleFrom (dependencies a.events) a.bound task) MAX_CYCLES) c.deref.ensures
          c.finding_of.ensures.too_many);
    }
