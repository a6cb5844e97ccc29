use Rattle.std.proofs.Common.{map, sym, subst}
use Rattle.trace_model.specs.declared.refutations.Derived.{Derived}
use Rattle.event_files.specs.ExplainedText.{stated_cycle, stated_member}
use Rattle.event_files.specs.ExplainedReading.{ReadsStatedLine, stated_state, steps}
use Rattle.event_files.specs.ExplainedLines.{entry}
use Rattle.event_files.proofs.ExplainedReadings.{follows_entry, reading, wrong_entry}
use Rattle.event_files.proofs.explained_reading.Reading.with_entry.Goals as goal

pub returns-in_default : goal.returns-in_default
returns-in_default c =
    wrong_entry c.args.self.head (map stated_cycle c.args.self.cycles.items) c.args.self.state (record { place = c.args.place; reason = c.args.reason }) c.in_default.not-Steps

pub returns : goal.returns
returns c =
    let h = c.args.self.head in
    let cs = map stated_cycle c.args.self.cycles.items in
    let d : Derived = record { place = c.args.place; reason = c.args.reason } in
    let ms = map stated_member c.in-Steps.members.items in
    let done = c.in-Steps.steps.items in
    let new = c.push.new.self.items in
    subst (λ s. ReadsStatedLine (reading h cs (stated_state s)) (entry d) (reading h cs (steps c.in-Steps.cycle ms done new))) (sym c.in-Steps.is)
    (follows_entry h cs c.in-Steps.cycle ms done c.in-Steps.entries.items new d c.in_ok-push.ensures.items)
