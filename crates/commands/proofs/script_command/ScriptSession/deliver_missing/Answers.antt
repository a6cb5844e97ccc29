use Rattle.std.proofs.Common.{◌∙◌, inr, sym, ap, subst, add-one, arith}
use Rattle.std.specs.Prelude.{slice_get}
use Rattle.std.proofs.lemmas.Result.{err_from_is_err_and}
use Rattle.trace_model.specs.Protocol.Machine.{State}
use Rattle.findings.specs.Found.{AskedQuestion}
use Rattle.commands.specs.ScriptRun.{DeliversTask, DeliversNext, IsJobIn, IsNextTask, RefusesTask, Works}
use Rattle.commands.proofs.ScriptTasks.{none_beyond, remains, tells_more}
use Rattle.commands.proofs.script_command.ScriptSession.deliver_missing.Goals as goal

pub loop-worked-preserved : goal.loop-worked-preserved
loop-worked-preserved c =
    let kept = c.loop-worked.invariant in
    let state = c.loop-worked.self.book.state in
    let next = c.deliver_task.new.self.book.state in
    let task = c.in-Ok-Some.task in
    let same = c.in_ok-deliver_task.ensures.same in
    let own = c.in_ok-deliver_task.ensures.delivered in
    let gave = subst (λ number. DeliversTask state number task next) kept.number own in
    let least = rw c.in-Ok-Some.field-0-is at c.in-Ok-Some.ensures.ok in
    record {
      number = ap (λ (job : AskedQuestion). job.question) same ∙ kept.number;
      job = subst (IsJobIn next) (sym same) (remains state next task c.loop-worked.job kept.job own);
      delivered = subst (λ n. DeliversNext n c.args.self.now.book.state c.args.question next) (sym (add-one c.loop-worked.worked)) (state, task, kept.delivered, least, gave);
      counted = tells_more state next c.args.question task c.loop-worked.worked kept.counted gave;
    }

pub returns-in_err-deliver_task : goal.returns-in_err-deliver_task
returns-in_err-deliver_task c =
    let kept = c.loop-worked.invariant in
    let old = c.args.self.now.book.state in
    let state = c.loop-worked.self.book.state in
    let next = c.deliver_task.new.self.book.state in
    let number = c.args.question in
    let task = c.in-Ok-Some.task in
    let outcome = c.in_err-deliver_task.ensures.refused in
    let p = err_from_is_err_and c.from_residual.result c.from_residual.ensures.1 in
    let least = rw c.in-Ok-Some.field-0-is at c.in-Ok-Some.ensures.ok in
    let refuses = subst (RefusesTask state number task) (sym p.2) (subst (λ n. RefusesTask state n task c.in_err-deliver_task.field-0.0) kept.number outcome.1) in
    subst (λ r. Works old number r next) (sym p.1) (
      c.loop-worked.worked,
      subst (DeliversNext c.loop-worked.worked old number) (sym outcome.0) kept.delivered,
      inr (task, subst (λ (s : State). IsNextTask s number task) (sym outcome.0) least, subst (λ (s : State). RefusesTask s number task p.0) (sym outcome.0) refuses),
    )

pub unreachable-requires : goal.unreachable-requires
unreachable-requires c =
    let kept = c.loop-worked.invariant in
    let state = c.loop-worked.self.book.state in
    none_beyond state c.args.question c.loop-worked.worked c.len.ensures.fits (omega (arith, c.loop-worked-test.false)) kept.counted
    (kept.job.0, ap (slice_get state.questions) (sym kept.number) ∙ kept.job.1)
