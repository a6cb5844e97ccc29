use Rattle.std.proofs.Common.{◌+◌, drop, get_or, sym, ap, ◌∙◌}
use Rattle.std.proofs.lemmas.List.{drop_more, drop_all}
use Rattle.event_files.specs.EventFile.{line_words}
use Rattle.event_files.specs.WitnessFile.{has_words}
use Rattle.event_files.proofs.Lines.{after_space, at_byte}
use Rattle.event_files.proofs.event_file.has_words.Goals as goal

pub returns-then-byte-ne32 : goal.returns-then-byte-ne32
returns-then-byte-ne32 c =
    let line = c.args.line.now in
    let i = c.loop-byte.byte-index in
    sym (c.loop-byte.invariant ∙ (ap (λ l. has_words (line_words l)) (drop_more line i 0 c.loop-byte-test.true) ∙ at_byte (get_or line i 0) (drop (i + 1) line) c.if-byte-ne32.true))

pub loop-byte-preserved : goal.loop-byte-preserved
loop-byte-preserved c =
    let line = c.args.line.now in
    let i = c.loop-byte.byte-index in
    c.loop-byte.invariant ∙ (ap (λ l. has_words (line_words l)) (drop_more line i 0 c.loop-byte-test.true) ∙ after_space (get_or line i 0) (drop (i + 1) line) c.if-byte-ne32.false)

pub returns : goal.returns
returns c = sym (c.loop-byte.invariant ∙ ap (λ l. has_words (line_words l)) (drop_all c.loop-byte.byte-index c.args.line.now c.loop-byte-test.false))
