use Rattle.std.proofs.Common.{◌≡◌, ◌<◌, [], length, map, sym, subst, ◌∙◌}
use Rattle.std.proofs.lemmas.Bool.{true≢false}
use Rattle.event_files.specs.Refutations.{last_derived_place}
use Rattle.event_files.specs.ExplainedText.{stated_cycle, stated_member}
use Rattle.event_files.specs.ExplainedReading.{ReadsStatedLine, IsWrongNext, stated_state, steps}
use Rattle.event_files.specs.ExplainedLines.{conclusion}
use Rattle.event_files.proofs.ExplainedReadings.{follows_conclusion, reading, wrong_conclusion, wrong_last}
use Rattle.event_files.proofs.explained_reading.Reading.with_conclusion.Goals as goal

pub returns-in_default : goal.returns-in_default
returns-in_default c =
    wrong_conclusion c.args.self.head (map stated_cycle c.args.self.cycles.items) c.args.self.state c.args.thread c.args.place c.in_default.not-Steps

pub returns-then-not-is_last : goal.returns-then-not-is_last
returns-then-not-is_last c =
    let h = c.args.self.head in
    let cs = map stated_cycle c.args.self.cycles.items in
    let ms = map stated_member c.in-Steps.members.items in
    let es = c.in-Steps.entries.items in
    let other : (0 < length es) × (last_derived_place es ≡ c.args.place) → ⊥ = λ last.
    true≢false (sym (c.is_last.ensures.1 (subst (λ l. (0 < length l) × (last_derived_place l ≡ c.args.place)) (sym c.deref.ensures.value) last)) ∙ c.if-not-is_last.true) in
    subst (λ s. IsWrongNext (reading h cs (stated_state s)) (conclusion c.args.thread c.args.place)) (sym c.in-Steps.is)
    (wrong_last h cs c.in-Steps.cycle ms c.in-Steps.steps.items es c.args.thread c.args.place other)

pub returns : goal.returns
returns c =
    let h = c.args.self.head in
    let cs = map stated_cycle c.args.self.cycles.items in
    let ms = map stated_member c.in-Steps.members.items in
    let es = c.in-Steps.entries.items in
    let new = c.push.new.self.items in
    let last = subst (λ l. (0 < length l) × (last_derived_place l ≡ c.args.place)) c.deref.ensures.value (c.is_last.ensures.0 c.if-not-is_last.false) in
    let follows = follows_conclusion h cs c.in-Steps.cycle ms c.in-Steps.steps.items new es c.args.thread c.args.place last.0 last.1 c.in_ok-push.ensures.items in
    subst (λ l. ReadsStatedLine (reading h cs (stated_state c.args.self.state)) (conclusion c.args.thread c.args.place) (reading h cs (steps c.in-Steps.cycle ms new l))) (sym c.new.ensures.items)
    (subst (λ s. ReadsStatedLine (reading h cs (stated_state s)) (conclusion c.args.thread c.args.place) (reading h cs (steps c.in-Steps.cycle ms new []))) (sym c.in-Steps.is) follows)
