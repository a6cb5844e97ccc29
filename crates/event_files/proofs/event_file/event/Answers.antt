use Rattle.std.proofs.Common.{[], length, refl, sym, ap, ◌∙◌, arith}
use Rattle.std.proofs.lemmas.Bool.Decides.{nat_tests}
use Rattle.std.proofs.lemmas.List.{append-nil}
use Rattle.event_files.specs.EventFile.{event_word}
use Rattle.event_files.proofs.event_file.event.Goals as goal

pub returns-else-is_empty-clause-complete : goal.returns-else-is_empty-clause-complete
returns-else-is_empty-clause-complete c = λ e fits is.
    let whole = c.in_ok-event.ensures.complete e [] fits refl (is ∙ sym (append-nil (event_word e))) in
    let none = ap length whole.1 in
    absurd (grind (arith, nat_tests))
