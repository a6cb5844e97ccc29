use Rattle.std.proofs.Common.{◌≡◌, ◌<◌, ◌∙◌, ℕ, List, Some, arith, ap, get_or, length, slice_get, sym, subst, true≢false}
use Rattle.std.specs.List.{Contains}
use Rattle.std.proofs.lemmas.List.{length-map}
use Rattle.std.proofs.lemmas.Option.{slice_get-get_or}
use Rattle.event_files.specs.ExplainedText.{stated_cycle, stated_member}
use Rattle.event_files.specs.declared.explanations.ExplainedMember.{ExplainedMember}
use Rattle.commands.specs.ExplainedRows.{HasPlaceAt, IsPlaced}
use Rattle.commands.proofs.RowTests.{fails_at, holds_all, holds_more, member_at, misplaced, number_at, placed_none, placed_so}
use Rattle.commands.proofs.explained_rows.other_place.Goals as goal
use Rattle.commands.proofs.explained_rows.other_place.Goals.{in-Some+else-not-has_place, in-None}

pub returns-then-not-has_place : goal.returns-then-not-has_place
returns-then-not-has_place c s follows =
    let e = c.args.explained.now in
    let r = stated_cycle e in
    let numbers = c.numbers-numbers.result.now in
    let value = c.numbers-numbers.ensures.value in
    let i = c.loop-index.index in
    let m = get_or numbers i 0 in
    let member = c.index-members-index.result in
    let items = e.members.items in
    let within : i < length numbers = omega (arith, c.loop-index-test.true) in
    let here = subst (λ (xs : List ℕ). slice_get xs i ≡ Some m) value (number_at numbers i within) in
    let inside : i < length items = omega (arith, within, ap length value, length-map items stated_member, c.requires.row.each) in
    let is : member ≡ get_or items i member = subst (λ (l : List ExplainedMember). member ≡ get_or l i member) c.as_slice-members.ensures.value c.index-members-index.is in
    let there = member_at items i member (slice_get-get_or items i member inside ∙ ap Some (sym is)) in
    let p = c.in-Some.place in
    let has : HasPlaceAt r i p = (stated_member member, there, c.in-Some.is) in (
      i,
      m,
      has,
      fails_at e.cycle (IsPlaced s r) i m here (c.loop-index.invariant s follows) (misplaced s r i m p has
          (λ number. true≢false (sym (c.has_place.ensures.1 (subst (λ (l : List ℕ). Contains l p) (sym c.places.ensures) (((c.tables_follow.ensures.number c.args.table.now s follows).1 m p).1 number))) ∙ c.if-not-has_place.true))),
    )

pub loop-index-preserved : goal.loop-index-preserved
loop-index-preserved c s follows =
    let e = c.args.explained.now in
    let r = stated_cycle e in
    let numbers = c.numbers-numbers.result.now in
    let value = c.numbers-numbers.ensures.value in
    let i = c.loop-index.index in
    let m = get_or numbers i 0 in
    let member = c.index-members-index.result in
    let items = e.members.items in
    let within : i < length numbers = omega (arith, c.loop-index-test.true) in
    let here = subst (λ (xs : List ℕ). slice_get xs i ≡ Some m) value (number_at numbers i within) in
    let inside : i < length items = omega (arith, within, ap length value, length-map items stated_member, c.requires.row.each) in
    let is : member ≡ get_or items i member = subst (λ (l : List ExplainedMember). member ≡ get_or l i member) c.as_slice-members.ensures.value c.index-members-index.is in
    let there = member_at items i member (slice_get-get_or items i member inside ∙ ap Some (sym is)) in
    holds_more e.cycle (IsPlaced s r) i m here (c.loop-index.invariant s follows) (elim c.match-member.branch [
      | in-Some+else-not-has_place w ↦ placed_so s r i m w.in-Some.place (stated_member member) there w.in-Some.is
          (((c.tables_follow.ensures.number c.args.table.now s follows).1 m w.in-Some.place).0 (subst (λ (l : List ℕ). Contains l w.in-Some.place) w.places.ensures (w.has_place.ensures.0 w.if-not-has_place.false)))
      | in-None w ↦ placed_none s r i m (stated_member member) there w.in-None.is
    ])

pub returns : goal.returns
returns c s follows =
    let e = c.args.explained.now in
    holds_all e.cycle (IsPlaced s (stated_cycle e)) c.loop-index.index (omega (arith, c.loop-index-test.false, ap length c.numbers-numbers.ensures.value)) (c.loop-index.invariant s follows)
