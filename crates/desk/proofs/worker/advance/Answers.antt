use Rattle.std.proofs.Common.{◌≡◌, Err, IfErr, Option, Result, Some, sym, ap, subst, ◌∙◌}
use Rattle.std.specs.Prelude.{IsSomeAnd}
use Rattle.trace_model.specs.declared.limits.TheConstants.{MAX_CYCLES}
use Rattle.trace_model.specs.Theory.Dependencies.{dependencies}
use Rattle.cycle_search.specs.CycleSearch.{CycleFrom, MoreThan}
use Rattle.findings.specs.Found.{AskedQuestion}
use Rattle.findings.specs.declared.computing.ComputeRefused.{ComputeRefused}
use Rattle.findings.specs.declared.task_search.TaskSearch.{TaskSearch}
use Rattle.findings.specs.TaskSearches.{ContinuesSearch, IsTaskSearch}
use Rattle.desk.specs.Published.{Afterwards}
use Rattle.desk.specs.Questions.{IsAboutEvents}
use Rattle.desk.specs.Turns.{ContinuesJob, TaskJobView, paused_at}
use Rattle.desk.proofs.PausedAt.{paused_own}
use Rattle.desk.proofs.worker.advance.Goals as goal

pub new-requires : goal.new-requires
new-requires g c =
    let job = c.into_parts-job.result.0 in
    let search = c.into_parts-job.result.1 in
    let later = c.in-Ok-Err.later in
    let continues : ContinuesSearch job.events job.bound c.args.visits search later =
    subst (λ r. IfErr r (ContinuesSearch job.events job.bound c.args.visits search)) c.in-Ok-Err.field-0-is c.in-Ok-Err.ensures.paused in
    record { search = subst (λ (q : AskedQuestion). IsTaskSearch q.events q.bound later) (sym c.advance.ensures.same) continues.searches }

pub returns-in-Ok-Err-clause-paused : goal.returns-in-Ok-Err-clause-paused
returns-in-Ok-Err-clause-paused g c e =
    let job = c.into_parts-job.result.0 in
    let search = c.into_parts-job.result.1 in
    let later = c.in-Ok-Err.later in
    let visits = c.args.visits in
    let started = c.args.started in
    let is = c.into_parts-job.ensures.job in
    let continues : ContinuesSearch job.events job.bound visits search later =
    subst (λ r. IfErr r (ContinuesSearch job.events job.bound visits search)) c.in-Ok-Err.field-0-is c.in-Ok-Err.ensures.paused in
    let kept : TaskJobView = record { asked = c.advance.new.self; search = later } in
    let goes : ContinuesJob visits started kept = record {
      same_question = c.advance.ensures.same ∙ is;
      continues = subst (λ (q : AskedQuestion). ContinuesSearch q.events q.bound visits started.search later) is
          (subst (λ (t : TaskSearch). ContinuesSearch job.events job.bound visits t later) c.into_parts-job.ensures.search continues);
    } in
    let at = c.put.ensures c.args.question ∙ paused_own c.args.question (Some c.new.result) (paused_at c.args.paused.now c.args.question) ∙ ap (λ (j : TaskJobView). Some j) c.new.ensures in
    subst (λ (o : Option TaskJobView). IsSomeAnd o (ContinuesJob visits started)) (sym at) goes

pub returns-in-Err-TooManyCycles-clause-too_many : goal.returns-in-Err-TooManyCycles-clause-too_many
returns-in-Err-TooManyCycles-clause-too_many g c e =
    let job = c.into_parts-job.result.0 in
    let is = c.into_parts-job.ensures.job in
    let was = c.in-Err-TooManyCycles.is ∙ ap (λ (r : ComputeRefused). Err r) c.in-Err-TooManyCycles.field-0-is in (
      c.receipt.result,
      c.args.started.asked.events,
      c.learn.ensures.learnt,
      subst (λ (j : AskedQuestion). Afterwards g.N.HistoryId.limit c.receipt.result (λ state. IsAboutEvents state j.question j.events)) (c.advance.ensures.same ∙ is) c.receipt.ensures,
      subst (λ (j : AskedQuestion). MoreThan (CycleFrom (dependencies j.events) j.bound c.args.started.search.task) MAX_CYCLES) is
          (subst (λ (s : TaskSearch). MoreThan (CycleFrom (dependencies job.events) job.bound s.task) MAX_CYCLES) c.into_parts-job.ensures.search (c.advance.ensures.too_many was)),
    )
