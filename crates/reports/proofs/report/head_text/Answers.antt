use Rattle.std.proofs.Common.{◌++◌, ap, ◌∙◌}
use Rattle.std.proofs.lemmas.Result.{IfOk-from_err}
use Rattle.reports.specs.Text.{about, counts}
use Rattle.reports.proofs.report.head_text.Goals as goal

pub returns : goal.returns
returns c = c.finish.ensures ∙ c.in_ok-write_counts.ensures _ (c.in_ok-write_about.ensures _ c.new-buffer.ensures) ∙ ap (λ b. about c.args.question c.args.events b ++ counts c.args.cycles c.args.confirmed) c.get.ensures.value

pub returns-in_err-write_about : goal.returns-in_err-write_about
returns-in_err-write_about c = IfOk-from_err c.from_residual.result _ c.from_residual.ensures.0

pub returns-in_err-write_counts : goal.returns-in_err-write_counts
returns-in_err-write_counts c = IfOk-from_err c.from_residual-in_err-write_counts.result _ c.from_residual-in_err-write_counts.ensures.0
