use Rattle.std.proofs.Common.{◌≡◌, ℕ, inl, inr, get_or, ap, ◌∙◌, arith}
use Rattle.std.proofs.lemmas.Bool.{cases_lt}
use Rattle.std.proofs.lemmas.Grind.{get_or_default_zero}
use Rattle.std.proofs.lemmas.Option.{slice_get_within, get_or_from_slice_get}
use Rattle.trace_model.proofs.Theory.Unique.{has_contained}
use Rattle.cycle_search.proofs.edges.are_at_least.Goals as goal
use Rattle.cycle_search.proofs.edges.are_at_least.Goals.{else-number-from-via-then-number-from+else-values-number, else-number-from-via-else-number-from}

pub bounds-values-number : goal.bounds-values-number
bounds-values-number c =
    let i = c.loop-number.number-index in
    let items = c.args.numbers.now in
    let m = get_or items i 0 in
    c.requires m (i, c.loop-number-test.true, get_or_default_zero items i m c.loop-number-test.true)

pub loop-number-preserved : goal.loop-number-preserved
loop-number-preserved c k n below at above = elim (cases_lt k c.loop-number.number-index) [
  | inl less ↦ c.loop-number.invariant k n less at above
  | inr more ↦
      let items = c.args.numbers.now in
      let same : c.loop-number.number-index ≡ k = omega arith in
      let is : get_or items c.loop-number.number-index 0 ≡ n = ap (λ (j : ℕ). get_or items j 0) same ∙ get_or_from_slice_get items k n 0 at in
      elim c.else-number-from.branch [
        | else-number-from-via-then-number-from+else-values-number w ↦ omega (arith, w.if-values-number.false, ap (λ (j : ℕ). get_or c.args.values.now j 0) is)
        | else-number-from-via-else-number-from w ↦ absurd (omega (arith, w.if-number-from.false, above, is))
      ]
]

pub returns : goal.returns
returns c t n holds above =
    let k = has_contained c.args.numbers.now n holds in
    c.loop-number.invariant k.0 n (omega (arith, slice_get_within c.args.numbers.now k.0 n k.1, c.loop-number-test.false)) k.1 above
