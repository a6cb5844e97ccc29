use Rattle.std.proofs.Common.{◌<◌, ◌∙◌, arith, get_or, length, refl, sym, true≢false}
use Rattle.std.proofs.lemmas.Bool.{false≢true}
use Rattle.dependencies.specs.Tables.{table_dependencies}
use Rattle.commands.proofs.RowTests.{apart_more, number_at}
use Rattle.commands.proofs.explained_rows.is_apart.Goals as goal

pub returns-then-not-are_apart : goal.returns-then-not-are_apart
returns-then-not-are_apart c =
    let numbers = c.args.numbers.now in
    let n = c.loop-earlier.earlier in
    let i = c.args.index in
    let within : n < length numbers = omega (arith, c.loop-earlier-test.true, c.requires.within) in (
      λ t. absurd (false≢true t),
      λ apart. absurd (true≢false (sym (c.are_apart.ensures.1 (apart n c.get.result.now c.get-member.result.now (omega (arith, c.loop-earlier-test.true)) (get_or numbers n 0, number_at numbers n within, c.get.ensures)
          (get_or numbers i 0, number_at numbers i c.requires.within, c.get-member.ensures))) ∙ c.if-not-are_apart.true)),
    )

pub loop-earlier-preserved : goal.loop-earlier-preserved
loop-earlier-preserved c =
    let numbers = c.args.numbers.now in
    let n = c.loop-earlier.earlier in
    let i = c.args.index in
    let within : n < length numbers = omega (arith, c.loop-earlier-test.true, c.requires.within) in
    apart_more (table_dependencies c.args.table.now) numbers i n c.get.result.now c.get-member.result.now (get_or numbers n 0, number_at numbers n within, c.get.ensures)
    (get_or numbers i 0, number_at numbers i c.requires.within, c.get-member.ensures) (c.are_apart.ensures.0 c.if-not-are_apart.false) c.loop-earlier.invariant

pub returns : goal.returns
returns c = (λ t j a b below. c.loop-earlier.invariant j a b (omega (arith, below, c.loop-earlier-test.false)), λ apart. refl)
