use Rattle.std.proofs.Common.{◌≡◌, ◌<◌, ◌∙◌, ℕ, List, Some, arith, ap, get_or, length, slice_get, sym, subst}
use Rattle.std.proofs.lemmas.List.{length-map}
use Rattle.std.proofs.lemmas.Option.{slice_get-get_or}
use Rattle.dependencies.specs.Tables.{table_dependencies}
use Rattle.event_files.specs.ExplainedText.{stated_cycle, stated_member}
use Rattle.event_files.specs.declared.explanations.ExplainedMember.{ExplainedMember}
use Rattle.commands.specs.ExplainedRows.{States}
use Rattle.commands.proofs.RowTests.{holds_all, holds_more, member_at, number_at, states_so}
use Rattle.commands.proofs.explained_rows.other_member.Goals as goal

pub loop-index-preserved : goal.loop-index-preserved
loop-index-preserved c =
    let e = c.args.explained.now in
    let numbers = c.numbers-numbers.result.now in
    let value = c.numbers-numbers.ensures.value in
    let i = c.loop-index.index in
    let m = get_or numbers i 0 in
    let member = c.index-members-index.result in
    let items = e.members.items in
    let within : i < length numbers = omega (arith, c.loop-index-test.true) in
    let here = subst (λ (xs : List ℕ). slice_get xs i ≡ Some m) value (number_at numbers i within) in
    let inside : i < length items = omega (arith, within, ap length value, length-map items stated_member, c.requires.row.each) in
    let is : member ≡ get_or items i member = subst (λ (l : List ExplainedMember). member ≡ get_or l i member) c.as_slice-members.ensures.value c.index-members-index.is in
    let there = member_at items i member (slice_get-get_or items i member inside ∙ ap Some (sym is)) in
    holds_more e.cycle (States (table_dependencies c.args.table.now) (stated_cycle e)) i m here c.loop-index.invariant
    (states_so (table_dependencies c.args.table.now) (stated_cycle e) i m (stated_member member) c.get.result.now there c.get.ensures (c.states.ensures.0 c.if-not-states.false))

pub returns : goal.returns
returns c =
    let e = c.args.explained.now in
    holds_all e.cycle (States (table_dependencies c.args.table.now) (stated_cycle e)) c.loop-index.index (omega (arith, c.loop-index-test.false, ap length c.numbers-numbers.ensures.value)) c.loop-index.invariant
