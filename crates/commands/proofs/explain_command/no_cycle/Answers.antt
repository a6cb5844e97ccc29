use Rattle.std.proofs.Common.{◌++◌, ◌∙◌, codes, ap, arith, append_assoc}
use Rattle.std.specs.List.{flat_map}
use Rattle.std.proofs.lemmas.List.{take_all}
use Rattle.commands.specs.Text.{labeled_line}
use Rattle.event_files.specs.Refutations.{label_and_number}
use Rattle.commands.proofs.explain_command.no_cycle.Goals as goal

pub returns : goal.returns
returns c =
    let ns = c.numbers-number-items.result.now in
    let end = take_all c.loop-number.number-index ns (omega (arith, c.loop-number-test.false)) ∙ c.numbers-number-items.ensures.value in
    let numbers = flat_map (label_and_number (codes " ")) c.args.cycle.now in
    let line = labeled_line (codes " with bound ") in
    let all = c.loop-number.invariant ∙ ap (λ l. codes "no cycle" ++ flat_map (label_and_number (codes " ")) l) end in
    c.in_ok-push_last.ensures ∙ (λ i. all i ++ line ((c.from-2.ensures ∙ c.get.ensures.value) i)) ∙ append_assoc (codes "no cycle") numbers (line c.args.bound)
