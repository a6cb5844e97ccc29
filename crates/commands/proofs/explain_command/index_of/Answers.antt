use Rattle.std.proofs.Common.{◌≡◌, ◌≢◌, ◌<◌, ◌∙◌, List, get_or, length, sym, ap, subst, arith}
use Rattle.std.specs.Cmp.Lexicographic.{same_text}
use Rattle.std.specs.List.{All}
use Rattle.std.proofs.lemmas.List.{take_all}
use Rattle.std.proofs.lemmas.List.Elements.{All-more}
use Rattle.std.proofs.lemmas.Option.{get_or_from_slice_get}
use Rattle.reports.specs.Printed.{PrintedRow}
use Rattle.commands.proofs.ExplainedTexts.{bytes_apart}
use Rattle.commands.proofs.explain_command.index_of.Goals as goal

pub loop-index-preserved : goal.loop-index-preserved
loop-index-preserved c =
    let rows = c.args.finding.now.rows in
    let i = c.loop-index.index in
    let own = c.index-rows-index.result in
    let here : own ≡ get_or rows i own = subst (λ (rs : List PrintedRow). own ≡ get_or rs i own) c.rows.ensures.rows c.index-rows-index.is in
    let within : i < length rows = omega (arith, c.loop-index-test.true, ap length c.rows-index-end.ensures.rows) in
    let apart = bytes_apart c.numbers.result.now c.numbers-in-loop-index.result.now c.eq.result c.eq.ensures c.if-eq.false in
    let own_cycle = c.numbers.ensures.value ∙ ap (λ (p : PrintedRow). p.row.cycle) c.row.view_is in
    let differs : PrintedRow → Type 0 = λ p. p.row.cycle ≢ c.args.cycle.now in
    let other : differs own = λ same. apart (own_cycle ∙ same ∙ sym c.numbers-in-loop-index.ensures.value) in
    All-more differs rows i own within c.loop-index.invariant (subst differs here other)

pub returns-then-eq-clause-found : goal.returns-then-eq-clause-found
returns-then-eq-clause-found c row at =
    let rows = c.args.finding.now.rows in
    let i = c.loop-index.index in
    let own = c.index-rows-index.result in
    let here : own ≡ get_or rows i own = subst (λ (rs : List PrintedRow). own ≡ get_or rs i own) c.rows.ensures.rows c.index-rows-index.is in
    let same = here ∙ get_or_from_slice_get rows i row own at in
    let own_cycle = c.numbers.ensures.value ∙ ap (λ (p : PrintedRow). p.row.cycle) c.row.view_is in
    let equal = same_text c.numbers.result.now c.numbers-in-loop-index.result.now (sym c.if-eq.true ∙ c.eq.ensures) in
    ap (λ (p : PrintedRow). p.row.cycle) (sym same) ∙ sym own_cycle ∙ equal ∙ c.numbers-in-loop-index.ensures.value

pub returns-clause-none : goal.returns-clause-none
returns-clause-none c is =
    let rows = c.args.finding.now.rows in
    let end = take_all c.loop-index.index rows (omega (arith, c.loop-index-test.false, ap length c.rows-index-end.ensures.rows)) in
    subst (All (λ (p : PrintedRow). p.row.cycle ≢ c.args.cycle.now)) end c.loop-index.invariant
