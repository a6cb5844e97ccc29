use Rattle.std.proofs.Common.{◌≡◌, inl, inr, slice_get, Some, sym, ap, ◌∙◌, arith}
use Rattle.std.proofs.lemmas.Bool.{cases_lt}
use Rattle.std.proofs.lemmas.Option.{same_Some, slice_get-get_or, slice_get_within}
use Rattle.trace_model.proofs.Theory.Ascending.{place_of}
use Rattle.fronts.proofs.fronts.greatest.Goals as goal

pub loop-place-preserved : goal.loop-place-preserved
loop-place-preserved c = λ k p l at.
    let xs = c.args.places.now in
    let i = c.loop-place.place-index in
    let x = c.place-item.result in
    let here : slice_get xs i ≡ Some x = slice_get-get_or xs i x c.loop-place-test.true ∙ ap Some (sym c.place-item.is) in
    elim (cases_lt k i) [
      | inl m ↦ omega (arith, c.loop-place.invariant k p m at)
      | inr m ↦
          let e : i ≡ k = omega (arith, m, l) in
          let same : x ≡ p = same_Some x p (sym here ∙ (ap (slice_get xs) e ∙ at)) in
          omega (arith, same)
    ]

pub returns : goal.returns
returns c = λ p k.
    let xs = c.args.places.now in
    let (i, at) = place_of xs p k in
    c.loop-place.invariant i p (omega (arith, slice_get_within xs i p at)) at
