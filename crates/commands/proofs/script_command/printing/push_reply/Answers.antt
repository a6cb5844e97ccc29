use Rattle.std.proofs.Common.{◌++◌, ◌∙◌, sym, ap}
use Rattle.std.proofs.lemmas.Result.{on_ok_weaker}
use Rattle.commands.specs.Script.{book_words, task_words, row_words, reply_text}
use Rattle.commands.proofs.Words.{added_thrice}
use Rattle.commands.proofs.script_command.printing.push_reply.Goals as goal

pub returns-in_ok-push_tasks-in-Status : goal.returns-in_ok-push_tasks-in-Status
returns-in_ok-push_tasks-in-Status c =
    let s = c.in-Status in
    let text = c.args.text.now.items in
    on_ok_weaker c.push_rows.result (λ e.
    added_thrice text c.push_book.new.text.items c.push_tasks.new.text.items c.push_rows.new.text.items
    (book_words s.status) (task_words s.status) (row_words s.status)
    c.in_ok-push_book-in-Status.ensures c.in_ok-push_tasks-in-Status.ensures e
    ∙ ap (λ r. text ++ reply_text r) (sym s.is)) c.push_rows.ensures
