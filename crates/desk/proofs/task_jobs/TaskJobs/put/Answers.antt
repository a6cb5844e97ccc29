use Rattle.std.proofs.Common.{◌≡◌, ℕ, List, Option, Some, sym, subst}
use Rattle.std.specs.Prelude.{nat_eq, slice_set, if◌then◌else◌}
use Rattle.desk.specs.Turns.{TaskJobView, paused_at}
use Rattle.desk.proofs.PausedAt.{paused_set}
use Rattle.desk.proofs.task_jobs.TaskJobs.put.Goals as goal

pub returns : goal.returns
returns g c other =
    let question = c.args.question in
    let job : Option TaskJobView = Some c.args.job in
    let now = c.args.self.now in
    subst (λ (n : ℕ). paused_at (slice_set c.self.inside.jobs.items n job) other ≡ (if nat_eq question other then job else paused_at now other)) (sym c.from.ensures)
    (subst (λ (jobs : List (Option TaskJobView)). paused_at (slice_set jobs question job) other ≡ (if nat_eq question other then job else paused_at now other)) (sym c.self.view_is)
    (paused_set now question job other c.requires.room))
