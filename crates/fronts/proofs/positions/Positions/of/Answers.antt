use Rattle.std.proofs.Common.{◌≡◌, ℕ, ◌+◌, ◌-◌, ◌<◌, inl, inr, length, length-set, replicate, slice_get, slice_set, Some, sym, ap, subst, ◌∙◌, arith}
use Rattle.std.proofs.lemmas.Bool.{cases_lt}
use Rattle.std.proofs.lemmas.List.{length-replicate}
use Rattle.std.proofs.lemmas.Option.{same_Some, slice_get_within}
use Rattle.trace_model.proofs.Lists.{at_index, get-set_same, get-set_other}
use Rattle.fronts.specs.Runs.{IsThreadRun}
use Rattle.fronts.proofs.positions.Positions.of.Goals as goal

pub loop-place-init : goal.loop-place-init
loop-place-init c =
    let xs = c.args.prefixes.items in
    let lengths = c.in_ok-lengths.lengths.items in
    let zeros : lengths ≡ replicate c.len.result 0 = c.in_ok-lengths.ensures.items_if_clones_equal (λ y h. h) in
    let long : length lengths ≡ length xs = omega (arith, ap length zeros, length-replicate {A = ℕ} c.len.result 0, c.len.ensures) in
    record {
      within = omega (arith, c.len-place.ensures);
      all = long;
      here = λ l. absurd (omega (arith, c.len-place.ensures, l));
      each = λ p n l at. absurd (omega (arith, c.len-place.ensures, l, long, slice_get_within lengths p n at));
    }

pub run_length-length-requires-clause-within : goal.run_length-length-requires-clause-within
run_length-length-requires-clause-within c = omega (arith, c.loop-place.invariant.within, c.loop-place-test.true, ap length c.as_slice.ensures.value)

pub run_length-length-requires-clause-later : goal.run_length-length-requires-clause-later
run_length-length-requires-clause-later c = λ l.
    let same : c.loop-place.place - 1 + 1 ≡ c.loop-place.place = omega (arith, c.loop-place-test.true) in
    subst (λ xs. IsThreadRun xs (c.loop-place.place - 1 + 1) (c.loop-place.place - 1 + 1 + c.loop-place.length)) (sym c.as_slice.ensures.value)
    (subst (λ p. IsThreadRun c.args.prefixes.items p (p + c.loop-place.length)) (sym same)
    (c.loop-place.invariant.here (omega (arith, l, same, ap length c.as_slice.ensures.value))))

pub index_mut-requires : goal.index_mut-requires
index_mut-requires c = omega (arith, c.loop-place.invariant.within, c.loop-place.invariant.all, c.loop-place-test.true)

pub loop-place-preserved : goal.loop-place-preserved
loop-place-preserved c =
    let xs = c.args.prefixes.items in
    let lengths = c.loop-place.lengths.items in
    let p = c.loop-place.place - 1 in
    let n = c.run_length-length.result in
    let inv = c.loop-place.invariant in
    let some : 0 < c.loop-place.place = c.loop-place-test.true in
    let run : IsThreadRun xs p (p + n) = subst (λ ys. IsThreadRun ys p (p + n)) c.as_slice.ensures.value c.run_length-length.ensures in
    let (old, at_old) = at_index lengths p (omega (arith, inv.within, inv.all, some)) in
    record {
      within = omega (arith, inv.within);
      all = length-set lengths p n ∙ inv.all;
      here = λ l. run;
      each = λ q m low at. elim (cases_lt p q) [
        | inl less ↦
            let kept : slice_get (slice_set lengths p n) q ≡ slice_get lengths q = get-set_other lengths p q n (λ z. omega (arith, z, less)) in
            inv.each q m (omega (arith, less)) (sym kept ∙ at)
        | inr over ↦
            let same : q ≡ p = omega (arith, low, over) in
            let here : slice_get (slice_set lengths p n) p ≡ Some m = subst (λ z. slice_get (slice_set lengths p n) z ≡ Some m) same at in
            let is : n ≡ m = same_Some n m (sym (get-set_same lengths p old n at_old) ∙ here) in
            subst (λ z. IsThreadRun xs z (z + m)) (sym same) (subst (λ z. IsThreadRun xs p (p + z)) is run)
      ];
    }

pub invariant_of-result : goal.invariant_of-result
invariant_of-result c = record {
  each = λ p n at. c.loop-place.invariant.each p n (omega (arith, c.loop-place-test.false)) at;
  all = c.loop-place.invariant.all;
  few = c.requires;
}
