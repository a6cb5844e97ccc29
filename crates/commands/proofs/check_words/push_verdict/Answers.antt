use Rattle.std.proofs.Common.{◌++◌, ◌∙◌, append_assoc, ap, arith, codes, sym}
use Rattle.std.specs.List.{flat_map}
use Rattle.std.proofs.lemmas.List.{take_all}
use Rattle.commands.specs.CheckWords.{cycle_verdict_words}
use Rattle.event_files.specs.Refutations.{label_and_number}
use Rattle.commands.proofs.check_words.push_verdict.Goals as goal

pub returns-in_ok-extend_from_slice-in-NoRefutation : goal.returns-in_ok-extend_from_slice-in-NoRefutation
returns-in_ok-extend_from_slice-in-NoRefutation c =
    let ns = c.numbers-number-items.result.now in
    let text = c.args.text.now.items in
    let end = take_all c.loop-number.number-index ns (omega (arith, c.loop-number-test.false)) ∙ c.numbers-number-items.ensures.value in
    let numbers = codes "cycle" ++ flat_map (label_and_number (codes " ")) c.args.cycle.now in
    let all = c.loop-number.invariant ∙ ap (λ l. text ++ (codes "cycle" ++ flat_map (label_and_number (codes " ")) l)) end in
    c.in_ok-extend_from_slice-in-NoRefutation.ensures.items ∙ ap (λ l. l ++ codes " no refutation\n") all ∙ append_assoc text numbers (codes " no refutation\n")
    ∙ ap (λ v. text ++ (numbers ++ cycle_verdict_words v)) (sym c.in-NoRefutation.is)
