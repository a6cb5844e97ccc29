use Rattle.std.proofs.Common.{◌++◌, ap, ◌∙◌}
use Rattle.std.proofs.lemmas.Result.{IfOk-from_err, on_ok_weaker}
use Rattle.std.specs.Prelude.{codes}
use Rattle.event_files.specs.Refutations.{label_and_number}
use Rattle.commands.proofs.Words.{added_all}
use Rattle.commands.proofs.script_command.printing.push_book.Goals as goal

pub returns-in_err-push_number : goal.returns-in_err-push_number
returns-in_err-push_number c = IfOk-from_err c.from_residual.result _ c.from_residual.ensures.0

pub returns-in_err-push_number-2 : goal.returns-in_err-push_number-2
returns-in_err-push_number-2 c = IfOk-from_err c.from_residual-in_err-push_number-2.result _ c.from_residual-in_err-push_number-2.ensures.0

pub returns-in_err-push_number-3 : goal.returns-in_err-push_number-3
returns-in_err-push_number-3 c = IfOk-from_err c.from_residual-in_err-push_number-3.result _ c.from_residual-in_err-push_number-3.ensures.0

pub returns-in_err-push_number-4 : goal.returns-in_err-push_number-4
returns-in_err-push_number-4 c = IfOk-from_err c.from_residual-in_err-push_number-4.result _ c.from_residual-in_err-push_number-4.ensures.0

pub returns : goal.returns
returns c =
    let s = c.args.status.now in
    let text = c.args.text.now.items in
    let p = label_and_number (codes "status ") s.question in
    let q = label_and_number (codes " accepted ") s.accepted in
    let r = label_and_number (codes " opened ") s.opened in
    let three = added_all text c.push_number.new.text.items c.push_number-2.new.text.items c.push_number-3.new.text.items p q r
    c.in_ok-push_number.ensures c.in_ok-push_number-2.ensures c.in_ok-push_number-3.ensures in
    on_ok_weaker c.push_number-5.result (λ e.
    added_all text c.push_number-3.new.text.items c.push_number-4.new.text.items c.push_number-5.new.text.items (p ++ q ++ r) (label_and_number (codes " length ") s.length) (label_and_number (codes " bound ") s.bound)
    three c.in_ok-push_number-4.ensures (e ∙ ap (λ n. c.push_number-4.new.text.items ++ label_and_number (codes " bound ") n) c.get.ensures.value)) c.push_number-5.ensures
