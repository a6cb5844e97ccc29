use Rattle.std.proofs.Common.{Some, sym, ◌∙◌, subst}
use Rattle.std.proofs.lemmas.Bool.{true≢false}
use Rattle.event_files.specs.ExplainedReading.{ReadsStatedLine, stated_reading}
use Rattle.event_files.specs.ExplainedLines.{head}
use Rattle.event_files.proofs.ExplainedReadings.{follows_head, reading, wrong_head}
use Rattle.event_files.proofs.explained_reading.Reading.with_head.Goals as goal

pub returns-then-not-is_empty : goal.returns-then-not-is_empty
returns-then-not-is_empty c =
    let r = stated_reading c.args.self in
    wrong_head r.head r.cycles r.state c.args.first (λ empty. true≢false (sym (c.is_empty.ensures.1 empty) ∙ c.if-not-is_empty.true))

pub returns : goal.returns
returns c =
    let r = stated_reading c.args.self in
    let empty = c.is_empty.ensures.0 c.if-not-is_empty.false in
    subst (ReadsStatedLine r (head c.args.first)) (sym (λ i. reading (Some c.args.first) (empty i).cycles (empty i).state)) (follows_head r c.args.first empty)
