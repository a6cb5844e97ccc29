use Rattle.std.proofs.Common.{◌≡◌, false, length, map, sym, ◌∙◌, subst, arith}
use Rattle.std.specs.Prelude.{is_some, option_map}
use Rattle.std.proofs.lemmas.Bool.Decides.{nat_tests}
use Rattle.std.proofs.lemmas.List.{length-map}
use Rattle.event_files.specs.ExplainedText.{stated_cycle}
use Rattle.event_files.specs.ExplainedReading.{AreEnded, stated_reading, stated_state}
use Rattle.event_files.proofs.ExplainedOrder.{wrong_end}
use Rattle.event_files.proofs.ExplainedReadings.{empty_end, open_end, whole_file}
use Rattle.event_files.proofs.explained_reading.Reading.finish.Goals as goal
use Rattle.event_files.proofs.explained_reading.Reading.finish.Goals.{else-is_none-via-then-is_none+else-is_empty, else-is_none-via-else-is_none}

pub returns-in_default : goal.returns-in_default
returns-in_default c =
    let cs = map stated_cycle c.args.self.cycles.items in
    let s = stated_state c.args.self.state in
    wrong_end (stated_reading c.args.self)
    (open_end c.args.self.head cs s (subst (λ o. AreEnded cs s (option_map (λ v. map stated_cycle v.items) o)) c.in_default.is c.in_ok-cycles.ensures))

pub returns-then-is_empty : goal.returns-then-is_empty
returns-then-is_empty c =
    let cs = map stated_cycle c.args.self.cycles.items in
    let all = map stated_cycle c.in-Some.cycles.items in
    let s = stated_state c.args.self.state in
    let ended = subst (λ o. AreEnded cs s (option_map (λ v. map stated_cycle v.items) o)) c.in-Some.is c.in_ok-cycles.ensures in
    let none : is_some c.args.self.head ≡ false = c.if-is_none.ensures in
    let zero : length c.in-Some.cycles.items ≡ 0 = grind (arith, nat_tests, c.in-Some.cycles.ok) in
    let empty : length all ≡ 0 = length-map c.in-Some.cycles.items stated_cycle ∙ zero in
    wrong_end (stated_reading c.args.self) (λ is. empty_end c.args.self.head cs all s ended.0 ended.1 none empty)

pub returns : goal.returns
returns c =
    let cs = map stated_cycle c.args.self.cycles.items in
    let all = map stated_cycle c.in-Some.cycles.items in
    let s = stated_state c.args.self.state in
    let ended = subst (λ o. AreEnded cs s (option_map (λ v. map stated_cycle v.items) o)) c.in-Some.is c.in_ok-cycles.ensures in
    let some : is_some c.args.self.head ≡ false → length all ≡ 0 → ⊥ = λ none empty.
    let zero : length c.in-Some.cycles.items ≡ 0 = sym (length-map c.in-Some.cycles.items stated_cycle) ∙ empty in
    elim c.else-is_none.branch [ else-is_none-via-then-is_none+else-is_empty w ↦ grind (arith, nat_tests, c.in-Some.cycles.ok) | else-is_none-via-else-is_none w ↦ grind (arith, nat_tests) ] in
    whole_file c.args.self.head cs all s ended.0 ended.1 some
