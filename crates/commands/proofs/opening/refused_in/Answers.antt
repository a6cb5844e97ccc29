use Rattle.std.proofs.Common.{◌≡◌, ◌+◌, ◌-◌, ◌∙◌, length, ap, sym, subst, arith, length-append}
use Rattle.std.specs.Option.{option_copied}
use Rattle.event_files.specs.EventFile.{pieces_at, IsFirstBad}
use Rattle.event_files.specs.declared.refused.FileRefused.TheVariants.{Line}
use Rattle.commands.specs.AdmittedBlocks.{lines_after, IsRefusedAfter}
use Rattle.commands.proofs.AdmittedBlocks.{bad_in_file}
use Rattle.commands.proofs.opening.refused_in.Goals.{in-Some, in-None}
use Rattle.commands.proofs.opening.refused_in.Goals as goal

pub returns-after-rest : goal.returns-after-rest
returns-after-rest c =
    let file = c.args.file.now in
    let text = c.args.text.now in
    let lines = c.requires.lines in
    let rest = lines_after (option_copied c.args.rest) in
    let number = c.in-Line.number in
    let refused : IsRefusedAfter file text (option_copied c.args.rest) (Line number) = record {
      lines = lines;
      all = c.requires.all;
      events = c.requires.events;
      are = c.requires.are;
      refused = rw c.in-Line.is at c.requires.refused;
    } in
    let total : length (pieces_at 10 file) ≡ length lines + (length (pieces_at 10 text) + length rest) =
    ap length c.requires.all ∙ length-append lines _ ∙ ap (λ n. length lines + n) (length-append (pieces_at 10 text) rest) in
    let in_file = λ (later : c.match-rest.later ≡ length rest).
    let same : length lines + number ≡ c.line_count.result - c.line_count-in-Line.result - c.match-rest.later + number =
    omega (arith, c.line_count.ensures, c.line_count-in-Line.ensures, later, total) in
    subst (IsFirstBad (pieces_at 10 file)) same (bad_in_file file text (option_copied c.args.rest) number refused) in
    elim c.match-rest.branch [
      | in-Some w ↦ in_file (w.later-is ∙ w.line_count-later.ensures ∙ sym (ap (λ r. length (lines_after (option_copied r))) w.in-Some.is))
      | in-None w ↦ in_file (w.later-is ∙ sym (ap (λ r. length (lines_after (option_copied r))) w.in-None.is))
    ]
