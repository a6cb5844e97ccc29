use Rattle.std.proofs.Common.{◌≡◌, ◌+◌, ◌∷◌, [], sym, ap, subst, ◌∙◌}
use Rattle.std.specs.Prelude.{MatchOption}
use Rattle.trace_model.proofs.Lists.{take-drop_rest}
use Rattle.event_files.specs.EventFile.{pieces_at}
use Rattle.event_files.proofs.FirstLines.{only_line, line_before}
use Rattle.event_files.proofs.event_file.later_lines.Goals as goal

pub returns-in_err-place : goal.returns-in_err-place
returns-in_err-place c =
    let text = c.args.text.now in (
      text,
      subst (λ r. MatchOption r (pieces_at 10 text ≡ text ∷ []) (λ rest. pieces_at 10 text ≡ text ∷ pieces_at 10 rest.now)) (sym c.from_residual.ensures) (only_line text (sym c.line_end.ensures ∙ c.in_err-place.was)),
    )

pub returns : goal.returns
returns c =
    let text = c.args.text.now in
    let l = line_before text c.in_ok-place.place (sym c.line_end.ensures ∙ c.in_ok-place.was) in
    (l.0, l.1 ∙ ap (λ r. l.0 ∷ pieces_at 10 r) (sym (take-drop_rest text (c.in_ok-place.place + 1))))
