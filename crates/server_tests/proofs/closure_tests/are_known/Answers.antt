use Rattle.std.proofs.Common.{◌≡◌, ◌<◌, get_or, take, length, inl, inr, sym, subst, arith}
use Rattle.std.specs.List.{Contains}
use Rattle.std.proofs.lemmas.List.{take_more, take_all}
use Rattle.dependencies.specs.Tables.{table_dependencies}
use Rattle.fronts.proofs.GrowingLemmas.{push_cases}
use Rattle.server_tests.proofs.closure_tests.are_known.Goals as goal

pub loop-number-preserved : goal.loop-number-preserved
loop-number-preserved c = λ m h.
    let xs = c.args.numbers.now in
    let i = c.loop-number.number-index in
    let n = get_or xs i 0 in
    let below : n < length (table_dependencies c.args.table.now) = omega (arith, c.if-number-len.false, c.len.ensures) in
    elim (push_cases (take i xs) n m (subst (λ ys. Contains ys m) (take_more xs i 0 c.loop-number-test.true) h)) [
      | inl before ↦ c.loop-number.invariant m before
      | inr same ↦ subst (λ k. k < length (table_dependencies c.args.table.now)) same below
    ]

pub returns : goal.returns
returns c = λ _ m h.
    let xs = c.args.numbers.now in
    let whole : take c.loop-number.number-index xs ≡ xs = take_all c.loop-number.number-index xs (omega arith) in
    c.loop-number.invariant m (subst (λ ys. Contains ys m) (sym whole) h)
