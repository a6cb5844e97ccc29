use Rattle.std.proofs.Common.{ℕ, List, Bor, map, sym, ◌∙◌}
use Rattle.std.proofs.lemmas.Bool.{true≢false}
use Rattle.std.proofs.lemmas.Bool.Decides.{Decides-eqb}
use Rattle.std.proofs.lemmas.Slice.Eq.{slice_eq-Decides}
use Rattle.commands.proofs.WrongLines.{no_line, no_words, other_first}
use Rattle.commands.proofs.script_command.reading.push_commands.Goals as goal
use Rattle.commands.proofs.script_command.reading.push_commands.Goals.{in-Some+else-eq, in_default}

pub returns-clause-wrong : goal.returns-clause-wrong
returns-clause-wrong c = λ is.
    let shown : Bor (List ℕ) → List ℕ = λ word. word.now in
    let words = c.args.words.now in
    no_line (map shown words) (λ more batch. elim c.match-split_first.branch [
      | in-Some+else-eq w ↦
          let same = slice_eq-Decides Decides-eqb w.in-Some.keyword.now.now w.as_slice.result.now w.eq.result w.eq.ensures in
          other_first words w.in-Some.keyword.now w.in-Some.events.now w.in-Some.ensures.cases (λ first. true≢false (sym (same.1 (first ∙ sym w.as_slice.ensures)) ∙ w.if-eq.false)) more batch
      | in_default w ↦ no_words words w.in_default.ensures.cases more batch
    ]) c.in_default-parse_command.ensures.none (c.push_offers.ensures.bad is)
