use Rattle.std.proofs.Common.{map, sym, subst}
use Rattle.std.specs.Prelude.{option_map}
use Rattle.event_files.specs.ExplainedText.{stated_cycle, stated_member}
use Rattle.event_files.specs.ExplainedReading.{AreEnded, ReadsStatedLine, members, stated_state}
use Rattle.event_files.specs.ExplainedLines.{row}
use Rattle.event_files.proofs.ExplainedReadings.{follows_row, reading, wrong_row}
use Rattle.event_files.proofs.explained_reading.Reading.with_row.Goals as goal

pub returns-in_default : goal.returns-in_default
returns-in_default c =
    let cs = map stated_cycle c.args.self.cycles.items in
    let s = stated_state c.args.self.state in
    wrong_row c.args.self.head cs s c.args.cycle c.args.is_confirmed
    (subst (λ o. AreEnded cs s (option_map (λ v. map stated_cycle v.items) o)) c.in_default.is c.in_ok-cycles.ensures)

pub returns : goal.returns
returns c =
    let h = c.args.self.head in
    let cs = map stated_cycle c.args.self.cycles.items in
    let all = map stated_cycle c.in-Some.cycles.items in
    let s = stated_state c.args.self.state in
    let ended = subst (λ o. AreEnded cs s (option_map (λ v. map stated_cycle v.items) o)) c.in-Some.is c.in_ok-cycles.ensures in
    subst (λ l. ReadsStatedLine (reading h cs s) (row c.args.cycle c.args.is_confirmed) (reading h all (members c.args.cycle c.args.is_confirmed (map stated_member l)))) (sym c.new.ensures.items)
    (follows_row h cs all s c.args.cycle c.args.is_confirmed ended.0 ended.1)
