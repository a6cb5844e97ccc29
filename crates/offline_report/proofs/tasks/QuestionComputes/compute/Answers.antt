use Rattle.std.proofs.Common.{◌∙◌}
use Rattle.offline_report.proofs.tasks.QuestionComputes.compute.Goals as goal

pub returns : goal.returns
returns g c = (c.part-part.ensures.task, λ e. c.part-part.ensures.whole (c.args.self.now.limited ∙ e))
