use Rattle.std.proofs.Common.{◌≤◌, ◌∙◌, length, true≢false, refl, sym, subst, arith}
use Rattle.std.proofs.lemmas.List.{take_all}
use Rattle.std.proofs.lemmas.List.Elements.{All-more}
use Rattle.std.specs.List.{All}
use Rattle.dependencies.specs.Tables.{table_dependencies}
use Rattle.guards.specs.Compatible.{NumbersApart}
use Rattle.guards.proofs.compatible.Goals as goal

pub returns-then-not-numbers_apart : goal.returns-then-not-numbers_apart
returns-then-not-numbers_apart c = (
  (λ t. absurd (true≢false (sym t))),
  (λ h. absurd (true≢false (sym (c.numbers_apart.ensures.1 (h c.loop-member.member-index 0 c.loop-member-test.true)) ∙ c.if-not-numbers_apart.true))),
)

pub loop-member-preserved : goal.loop-member-preserved
loop-member-preserved c =
    All-more (λ m. NumbersApart (table_dependencies c.args.table.now) m c.args.number) c.args.members.now c.loop-member.member-index 0 c.loop-member-test.true
    c.loop-member.invariant (c.numbers_apart.ensures.0 c.if-not-numbers_apart.false)

pub returns : goal.returns
returns c =
    let end : length c.args.members.now ≤ c.loop-member.member-index = omega arith in
    ((λ t. subst (All (λ m. NumbersApart (table_dependencies c.args.table.now) m c.args.number)) (take_all c.loop-member.member-index c.args.members.now end) c.loop-member.invariant), (λ h. refl))
