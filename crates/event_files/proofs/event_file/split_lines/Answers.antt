use Rattle.std.proofs.Common.{◌<◌, ◌+◌, ◌++◌, ◌∙◌, length, take, sym, ap, arith}
use Rattle.trace_model.proofs.Lists.{take-drop_rest}
use Rattle.event_files.specs.EventFile.{pieces_at}
use Rattle.event_files.proofs.SplitLines.{lines_split}
use Rattle.event_files.proofs.event_file.split_lines.Goals as goal

pub returns-then-text-end-eq10-clause-lines : goal.returns-then-text-end-eq10-clause-lines
returns-then-text-end-eq10-clause-lines c =
    let text = c.args.text.now in
    let end = c.loop-end.end in
    let within : end < length text = omega (arith, c.loop-end-test.true, c.loop-end.auto.end-end) in
    lines_split text end within c.if-text-end-eq10.true ∙ ap (λ rest. pieces_at 10 (take end text) ++ pieces_at 10 rest) (sym (take-drop_rest text (end + 1)))
