use Rattle.std.proofs.Common.{◌≡◌, ℕ, Some, false, true, sym, ap, subst, ◌∙◌}
use Rattle.std.proofs.lemmas.Bool.{false≢true}
use Rattle.desk.specs.Questions.{IsJobOf}
use Rattle.desk.specs.Turns.{TaskJobView}
use Rattle.desk.proofs.task_jobs.taken_at.Goals as goal

pub returns-else-is_of-clause-none : goal.returns-else-is_of-clause-none
returns-else-is_of-clause-none g c none job at of =
    let same : Some job ≡ Some c.in_ok-job.job = sym at ∙ (sym c.removed_at.ensures.removed ∙ c.in_ok-job.was) in
    let is : job ≡ c.in_ok-job.job = cc in
    let own = subst (λ (n : ℕ). IsJobOf n c.args.bound c.in_ok-job.job.asked) (sym c.from.ensures)
    (subst (λ (j : TaskJobView). IsJobOf c.args.question c.args.bound j.asked) is of) in
    absurd (false≢true (sym c.if-is_of.false ∙ c.is_of.ensures.1 own))
