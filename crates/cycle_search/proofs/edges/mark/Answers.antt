use Rattle.std.proofs.Common.{◌≡◌, ◌<◌, ℕ, Bool, true, List, inl, inr, length, Some, get_or, slice_get, slice_set, sym, ap, subst, ◌∙◌, arith}
use Rattle.std.proofs.lemmas.Bool.{cases_lt}
use Rattle.std.proofs.lemmas.Grind.{get_or_default_zero}
use Rattle.std.proofs.lemmas.List.{length-set}
use Rattle.std.proofs.lemmas.Option.{slice_get_within, get_or_from_slice_get}
use Rattle.std.specs.Global.{Vec}
use Rattle.trace_model.proofs.Theory.Unique.{has_contained}
use Rattle.cycle_search.proofs.EdgeLemmas.{set-marked, set-kept}
use Rattle.cycle_search.proofs.edges.mark.Goals as goal
use Rattle.cycle_search.proofs.edges.mark.Goals.{then-values-number, else-values-number}

pub bounds-values-number : goal.bounds-values-number
bounds-values-number c =
    let i = c.loop-number.number-index in
    let items = c.args.numbers.now in
    let m = get_or items i 0 in
    c.requires.known m (i, c.loop-number-test.true, get_or_default_zero items i m c.loop-number-test.true)

pub index_mut-requires : goal.index_mut-requires
index_mut-requires c =
    let i = c.loop-number.number-index in
    let items = c.args.numbers.now in
    let m = get_or items i 0 in
    let inside = c.requires.known m (i, c.loop-number-test.true, get_or_default_zero items i m c.loop-number-test.true) in
    omega (arith, inside, c.requires.each, c.loop-number.invariant.each)

pub loop-number-preserved : goal.loop-number-preserved
loop-number-preserved c =
    let i = c.loop-number.number-index in
    let items = c.args.numbers.now in
    let m = get_or items i 0 in
    let old = c.loop-number.marks.items in
    let inside = c.requires.known m (i, c.loop-number-test.true, get_or_default_zero items i m c.loop-number-test.true) in
    elim c.if-values-number.branch [
      | then-values-number w ↦
          let is : c.if-values-number.marks.items ≡ slice_set old m true = ap (λ (v : Vec Bool). v.items) w.marks-is in
          let here : m < length old = omega (arith, inside, c.requires.each, c.loop-number.invariant.each) in
          record {
            each = ap length is ∙ length-set old m true ∙ c.loop-number.invariant.each;
            kept = λ n h. subst (λ (xs : List Bool). slice_get xs n ≡ Some true) (sym is) (set-kept old m n (c.loop-number.invariant.kept n h));
            marked = λ k n below at value. subst (λ (xs : List Bool). slice_get xs n ≡ Some true) (sym is) (elim (cases_lt k i) [
              | inl less ↦ set-kept old m n (c.loop-number.invariant.marked k n less at value)
              | inr more ↦
                  let same : i ≡ k = omega arith in
                  let it : m ≡ n = ap (λ (j : ℕ). get_or items j 0) same ∙ get_or_from_slice_get items k n 0 at in
                  subst (λ j. slice_get (slice_set old m true) j ≡ Some true) it (set-marked old m here)
            ]);
          }
      | else-values-number w ↦
          let is : c.if-values-number.marks.items ≡ old = ap (λ (v : Vec Bool). v.items) w.marks-is in
          record {
            each = ap length is ∙ c.loop-number.invariant.each;
            kept = λ n h. subst (λ (xs : List Bool). slice_get xs n ≡ Some true) (sym is) (c.loop-number.invariant.kept n h);
            marked = λ k n below at value. subst (λ (xs : List Bool). slice_get xs n ≡ Some true) (sym is) (elim (cases_lt k i) [
              | inl less ↦ c.loop-number.invariant.marked k n less at value
              | inr more ↦
                  let same : i ≡ k = omega arith in
                  let it : m ≡ n = ap (λ (j : ℕ). get_or items j 0) same ∙ get_or_from_slice_get items k n 0 at in
                  absurd (omega (arith, w.if-values-number.false, value, ap (λ (j : ℕ). get_or c.args.values.now j 0) it))
            ]);
          }
    ]

pub returns-clause-marked : goal.returns-clause-marked
returns-clause-marked c n holds value =
    let k = has_contained c.args.numbers.now n holds in
    c.loop-number.invariant.marked k.0 n (omega (arith, slice_get_within c.args.numbers.now k.0 n k.1, c.loop-number-test.false)) k.1 value
