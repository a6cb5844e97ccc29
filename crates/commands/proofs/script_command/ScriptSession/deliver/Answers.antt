use Rattle.std.proofs.Common.{refl, subst}
use Rattle.commands.specs.ScriptRun.{DeliversTask}
use Rattle.commands.proofs.script_command.ScriptSession.deliver.Goals as goal

pub returns : goal.returns
returns c =
    (refl, subst (λ number. DeliversTask c.args.self.now.book.state number c.args.task c.deliver_task-delivered.new.self.book.state) c.in_ok-job.ensures.job.0 c.in_ok-delivered.ensures.delivered)
