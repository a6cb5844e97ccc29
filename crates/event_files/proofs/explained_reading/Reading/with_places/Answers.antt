use Rattle.std.proofs.Common.{map, ap, sym, ◌∙◌, subst}
use Rattle.std.proofs.lemmas.List.{map-append}
use Rattle.event_files.specs.ExplainedText.{stated_cycle, stated_member}
use Rattle.event_files.specs.ExplainedReading.{ReadsStatedLine, between, stated_state}
use Rattle.event_files.specs.ExplainedLines.{places}
use Rattle.event_files.proofs.ExplainedReadings.{follows_places, reading, wrong_places}
use Rattle.event_files.proofs.explained_reading.Reading.with_places.Goals as goal

pub returns-in_default : goal.returns-in_default
returns-in_default c =
    wrong_places c.args.self.head (map stated_cycle c.args.self.cycles.items) c.args.self.state c.args.order.items c.in_default.not-Unwitnessed

pub returns : goal.returns
returns c =
    let h = c.args.self.head in
    let cs = map stated_cycle c.args.self.cycles.items in
    let new = map stated_cycle c.push.new.self.items in
    let ms = map stated_member c.in-Unwitnessed.members.items in
    subst (λ s. ReadsStatedLine (reading h cs (stated_state s)) (places c.args.order.items) (reading h new between)) (sym c.in-Unwitnessed.is)
    (follows_places h cs new c.in-Unwitnessed.cycle c.args.order.items ms
    (ap (map stated_cycle) c.in_ok-push.ensures.items ∙ map-append stated_cycle c.args.self.cycles.items _))
