use Rattle.std.proofs.lemmas.Result.{IfOk-from_err, on_ok_weaker}
use Rattle.std.specs.Prelude.{codes}
use Rattle.event_files.specs.Refutations.{label_and_number}
use Rattle.commands.proofs.Words.{added_twice}
use Rattle.commands.proofs.script_command.printing.push_tasks.Goals as goal

pub returns-in_err-push_number : goal.returns-in_err-push_number
returns-in_err-push_number c = IfOk-from_err c.from_residual.result _ c.from_residual.ensures.0

pub returns : goal.returns
returns c =
    on_ok_weaker c.push_number-2.result (λ e.
    added_twice c.args.text.now.items c.push_number.new.text.items c.push_number-2.new.text.items (label_and_number (codes " total ") c.args.status.now.total)
    (label_and_number (codes " delivered ") c.args.status.now.delivered) c.in_ok-push_number.ensures e) c.push_number-2.ensures
