use Rattle.std.proofs.Common.{sym, ap, ◌∙◌}
use Rattle.std.specs.Prelude.{option_map}
use Rattle.std.proofs.lemmas.Option.{MatchOption-at_some, none-some, same_Some}
use Rattle.std.proofs.lemmas.Result.{IfOk-weaker}
use Rattle.event_files.specs.ExplainedLines.{stated_line}
use Rattle.event_files.specs.ExplainedReading.{IsNextStatedLine, ReadsLine, stated_reading}
use Rattle.event_files.proofs.ExplainedLoops.{no_line_reads, reads_line}
use Rattle.event_files.proofs.explained_file.read_line.Goals as goal

pub returns-in_default : goal.returns-in_default
returns-in_default c =
    no_line_reads c.args.line.now (stated_reading c.args.reading) (sym c.is_kept.ensures ∙ c.if-not-is_kept.false)
    (λ l line. none-some _ (ap (option_map stated_line) (sym c.in_default.is) ∙ c.in_ok-stated.ensures.complete l line))

pub returns : goal.returns
returns c =
    let r = stated_reading c.args.reading in
    let l = stated_line c.in-Some.stated in
    let states = MatchOption-at_some _ _ c.in-Some.stated c.in-Some.is c.in_ok-stated.ensures.sound in
    IfOk-weaker c.read.result (IsNextStatedLine r l) (ReadsLine c.args.line.now r)
    (λ next reads. reads_line c.args.line.now r l next (sym c.is_kept.ensures ∙ c.if-not-is_kept.false) states
    (λ m line. same_Some _ _ (ap (option_map stated_line) (sym c.in-Some.is) ∙ c.in_ok-stated.ensures.complete m line)) reads) c.read.ensures
