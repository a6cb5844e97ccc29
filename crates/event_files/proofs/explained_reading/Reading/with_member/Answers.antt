use Rattle.std.proofs.Common.{◌≡◌, map, ap, sym, ◌∙◌, subst}
use Rattle.std.specs.Prelude.{is_some}
use Rattle.std.proofs.lemmas.List.{map-append}
use Rattle.event_files.specs.ExplainedText.{stated_cycle, stated_member}
use Rattle.event_files.specs.ExplainedReading.{ReadsStatedLine, IsWrongNext, stated_state}
use Rattle.event_files.specs.ExplainedLines.{member}
use Rattle.event_files.proofs.ExplainedReadings.{differ, follows_member, reading, same_bool, wrong_member, wrong_place}
use Rattle.event_files.proofs.explained_reading.Reading.with_member.Goals as goal

pub returns-in_default : goal.returns-in_default
returns-in_default c =
    wrong_member c.args.self.head (map stated_cycle c.args.self.cycles.items) c.args.self.state (stated_member c.args.next) c.in_default.not-Members

pub returns-then-is_some-is_confirmed : goal.returns-then-is_some-is_confirmed
returns-then-is_some-is_confirmed c =
    let h = c.args.self.head in
    let cs = map stated_cycle c.args.self.cycles.items in
    let ms = map stated_member c.in-Members.members.items in
    let m = stated_member c.args.next in
    let other : is_some m.place ≡ c.in-Members.is_confirmed → ⊥ = λ e. differ c.is_some.result c.in-Members.is_confirmed c.if-is_some-is_confirmed.true (c.is_some.ensures ∙ e) in
    subst (λ s. IsWrongNext (reading h cs (stated_state s)) (member m)) (sym c.in-Members.is) (wrong_place h cs c.in-Members.cycle c.in-Members.is_confirmed ms m other)

pub returns : goal.returns
returns c =
    let h = c.args.self.head in
    let cs = map stated_cycle c.args.self.cycles.items in
    let ms = map stated_member c.in-Members.members.items in
    let new = map stated_member c.push.new.self.items in
    let m = stated_member c.args.next in
    let placed : is_some m.place ≡ c.in-Members.is_confirmed = sym c.is_some.ensures ∙ same_bool c.is_some.result c.in-Members.is_confirmed c.if-is_some-is_confirmed.false in
    subst (λ s. ReadsStatedLine (reading h cs (stated_state s)) (member m) (reading h cs (stated_state c.state_after-state.result))) (sym c.in-Members.is)
    (follows_member h cs c.in-Members.cycle c.in-Members.is_confirmed ms new m (stated_state c.state_after-state.result) placed
    (ap (map stated_member) c.in_ok-push.ensures.items ∙ map-append stated_member c.in-Members.members.items _) c.state_after-state.ensures)
