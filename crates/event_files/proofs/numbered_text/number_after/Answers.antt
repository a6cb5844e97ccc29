use Rattle.std.proofs.Common.{decimal, sym, ◌∙◌, append_assoc}
use Rattle.std.proofs.lemmas.List.{append_cancel_left}
use Rattle.event_files.proofs.numbered_text.number_after.Goals as goal

pub returns-clause-complete : goal.returns-clause-complete
returns-clause-complete c = λ n rest small stops is.
    let literal = c.args.literal.now in
    c.number_in.ensures.complete n rest small stops
    (append_cancel_left literal _ _ (sym c.in_ok-after.ensures ∙ (is ∙ append_assoc literal (decimal n) rest)))
