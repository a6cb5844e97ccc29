use Rattle.std.proofs.Common.{◌++◌, ◌∙◌, sym, append_assoc}
use Rattle.std.proofs.lemmas.Bool.{true≢false}
use Rattle.event_files.specs.Refutations.{label_and_number}
use Rattle.event_files.proofs.RefutationTexts.{read_three}
use Rattle.event_files.proofs.numbered_text.pair_in.Goals as goal

pub returns-then-is_literal-clause-sound : goal.returns-then-is_literal-clause-sound
returns-then-is_literal-clause-sound c =
    let ending = c.is_literal.ensures.0 c.if-is_literal.true in
    read_three c.args.text.now c.in_ok-first.rest.now (label_and_number c.args.label.now c.in_ok-first.first) (label_and_number c.args.next.now c.in_ok-second.second) c.args.ending.now c.in_ok-first.ensures.sound
    (c.in_ok-second.ensures.sound ∙ (λ i. label_and_number c.args.next.now c.in_ok-second.second ++ ending i))

pub returns-else-is_literal-clause-complete : goal.returns-else-is_literal-clause-complete
returns-else-is_literal-clause-complete c = λ m n ms ns next_stops ending_stops is.
    let next = label_and_number c.args.next.now n in
    let first = c.in_ok-first.ensures.complete m (next ++ c.args.ending.now) ms next_stops (is ∙ append_assoc (label_and_number c.args.label.now m) next c.args.ending.now) in
    let second = c.in_ok-second.ensures.complete n c.args.ending.now ns ending_stops first.1 in
    absurd (true≢false (sym (c.is_literal.ensures.1 second.1) ∙ c.if-is_literal.false))
