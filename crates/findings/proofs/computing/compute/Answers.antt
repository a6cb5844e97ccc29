use Rattle.std.proofs.Common.{◌≡◌, Err, IfOk, ℕ, sym, ap, subst, ◌∙◌}
use Rattle.std.specs.Arc.{arc_value}
use Rattle.std.proofs.lemmas.Result.{err_from_is_err_and}
use Rattle.trace_model.specs.declared.limits.TheConstants.{MAX_CYCLES}
use Rattle.trace_model.specs.Theory.Trace.{Trace}
use Rattle.trace_model.specs.Theory.Dependencies.{dependencies}
use Rattle.cycle_search.specs.CycleSearch.{CycleFrom, MoreThan}
use Rattle.findings.specs.declared.computing.ComputeRefused.TheVariants.{TooManyCycles}
use Rattle.findings.specs.Found.{AskedQuestion}
use Rattle.findings.proofs.computing.compute.Goals as goal

pub returns-in_err-analysis-clause-too_many : goal.returns-in_err-analysis-clause-too_many
returns-in_err-analysis-clause-too_many c e =
    let p = err_from_is_err_and c.from_residual.result c.from_residual.ensures.1 in
    let q = sym e ∙ p.1 ∙ ap Err p.2 in cc

pub returns : goal.returns
returns c =
    let r = c.compute.result in
    let task = c.args.task in
    let a = arc_value c.in_ok-analysis.analysis in
    let s = arc_value c.args.snapshot in
    let of = c.new-2.ensures in
    let is : c.new-2.result.bound ≡ c.args.bound = ap (λ (q : AskedQuestion). q.bound) of ∙ c.in_ok-analysis.ensures.1 in
    let events = ap (λ (q : AskedQuestion). q.events) of ∙ c.in_ok-analysis.ensures.0 in
    let question = ap (λ (q : AskedQuestion). q.question) of in
    record {
      asked = subst (λ (n : ℕ). IfOk r (λ f. (f.question ≡ n) × (f.bound ≡ c.args.bound) × (f.task ≡ task) × (f.events ≡ s))) question
          (subst (λ (n : ℕ). IfOk r (λ f. (f.question ≡ c.new-2.result.question) × (f.bound ≡ n) × (f.task ≡ task) × (f.events ≡ s))) is
          (subst (λ (s : Trace). IfOk r (λ f. (f.question ≡ c.new-2.result.question) × (f.bound ≡ c.new-2.result.bound) × (f.task ≡ task) × (f.events ≡ s))) events c.compute.ensures.asked));
      too_many = subst (λ (n : ℕ). r ≡ Err TooManyCycles → MoreThan (CycleFrom (dependencies s) n task) MAX_CYCLES) is
          (subst (λ (s : Trace). r ≡ Err TooManyCycles → MoreThan (CycleFrom (dependencies s) c.new-2.result.bound task) MAX_CYCLES) events c.compute.ensures.too_many);
    }
