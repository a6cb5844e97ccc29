use Rattle.std.proofs.Common.{◌≡◌, ◌<◌, get_or, take, length, inl, inr, sym, subst, arith}
use Rattle.std.specs.List.{Contains}
use Rattle.std.proofs.lemmas.List.{take_more, take_all}
use Rattle.fronts.proofs.GrowingLemmas.{push_cases}
use Rattle.server_tests.proofs.closure_tests.are_in_trace.Goals as goal

pub loop-place-preserved : goal.loop-place-preserved
loop-place-preserved c = λ p h.
    let xs = c.args.places.now in
    let i = c.loop-place.place-index in
    let q = c.place-item.result in
    let below : q < length c.args.index.now.events = omega (arith, c.if-get-len.false, c.len.ensures.length, c.get.ensures) in
    elim (push_cases (take i xs) (get_or xs i q) p (subst (λ ys. Contains ys p) (take_more xs i q c.loop-place-test.true) h)) [
      | inl before ↦ c.loop-place.invariant p before
      | inr same ↦ subst (λ k. k < length c.args.index.now.events) same (subst (λ k. k < length c.args.index.now.events) c.place-item.is below)
    ]

pub returns : goal.returns
returns c = λ _ p h.
    let xs = c.args.places.now in
    let whole : take c.loop-place.place-index xs ≡ xs = take_all c.loop-place.place-index xs (omega arith) in
    c.loop-place.invariant p (subst (λ ys. Contains ys p) (sym whole) h)
