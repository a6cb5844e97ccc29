use Rattle.std.proofs.lemmas.Result.{IfOk-from_err, on_ok_weaker}
use Rattle.std.specs.Prelude.{codes}
use Rattle.commands.specs.Text.{labeled_line}
use Rattle.event_files.specs.Refutations.{label_and_number}
use Rattle.commands.proofs.Words.{added_all}
use Rattle.commands.proofs.script_command.printing.push_pending.Goals as goal

pub returns-in_err-push_number : goal.returns-in_err-push_number
returns-in_err-push_number c = IfOk-from_err c.from_residual.result _ c.from_residual.ensures.0

pub returns-in_err-push_number-2 : goal.returns-in_err-push_number-2
returns-in_err-push_number-2 c = IfOk-from_err c.from_residual-in_err-push_number-2.result _ c.from_residual-in_err-push_number-2.ensures.0

pub returns : goal.returns
returns c =
    on_ok_weaker c.push_last.result (λ e.
    added_all c.args.text.now.items c.push_number.new.text.items c.push_number-2.new.text.items c.push_last.new.text.items (label_and_number (codes "pending ") c.args.question) (label_and_number (codes " delivered ") c.args.delivered)
    (labeled_line (codes " total ") c.args.total) c.in_ok-push_number.ensures c.in_ok-push_number-2.ensures e) c.push_last.ensures
