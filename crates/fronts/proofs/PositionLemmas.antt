-- Runs of consecutive places.
use Rattle.std.proofs.Common.{◌≡◌, ℕ, ◌+◌, ◌-◌, ◌<◌, ◌≤◌, min, inl, inr, nat_lt, ◌&&◌, List, length, slice_get, Some, sym, ap, subst, ◌∙◌, arith}
use Rattle.std.specs.Arc.{arc_value}
use Rattle.std.proofs.lemmas.Bool.{cases_lt}
use Rattle.std.proofs.lemmas.Option.{same_Some}
use Rattle.trace_model.proofs.Lists.{at_index}
use Rattle.fronts.specs.declared.fronts.Fronts.{Fronts}
use Rattle.fronts.specs.declared.requirements.ThreadPrefix.{ThreadPrefix}
use Rattle.fronts.specs.Runs.{IsPositionAfter, IsThreadRun}
use Rattle.fronts.specs.Slots.{among}
use Rattle.fronts.specs.State.{IsSetRun, included_count}
use Rattle.fronts.proofs.FrontLemmas.{lt_true, lt_false, among_at}

is_after_none : (to later : ThreadPrefix) (n : ℕ) → to ≡ later → n ≡ 0 → IsPositionAfter to n later
is_after_none to later n e z = (ap (λ (x : ThreadPrefix). x.slot) (sym e), ap (λ (x : ThreadPrefix). x.count) (sym e) ∙ omega (arith, z))

-- One place is a run.
pub run_of_one : (positions : List ThreadPrefix) (p : ℕ) → p < length positions → IsThreadRun positions p (p + 1)
run_of_one positions p l = record {
  some = omega arith;
  within = omega (arith, l);
  each = λ q to later low high at here.
      let e : q ≡ p = omega (arith, low, high) in
      is_after_none to later (q - p) (same_Some to later (sym at ∙ subst (λ z. slice_get positions z ≡ Some later) e here)) (omega (arith, e));
}

-- A run with the place before it.
pub run_with : (positions : List ThreadPrefix) (p end : ℕ) (here next : ThreadPrefix) → slice_get positions p ≡ Some here →
    slice_get positions (p + 1) ≡ Some next → IsPositionAfter here 1 next → IsThreadRun positions (p + 1) end → IsThreadRun positions p end
run_with positions p end here next at at_next after run = record {
  some = omega (arith, run.some);
  within = run.within;
  each = λ q to later low high first found.
      let same : here ≡ to = same_Some here to (sym at ∙ first) in
      elim (cases_lt p q) [
        | inl less ↦
            let rest = run.each q next later (omega (arith, less)) high at_next found in (
              rest.0 ∙ after.0 ∙ ap (λ (x : ThreadPrefix). x.slot) same,
              omega (arith, rest.1, after.1, ap (λ (x : ThreadPrefix). x.count) same, less),
            )
        | inr over ↦
            let e : q ≡ p = omega (arith, low, over) in
            is_after_none to later (q - p) (same_Some to later (sym first ∙ subst (λ z. slice_get positions z ≡ Some later) e found)) (omega (arith, e))
      ];
}

-- Of a run, a set of fronts has the places whose numbers are below the front of their thread.
pub set_run : (f : Fronts) (p end : ℕ) (to : ThreadPrefix) → p < f.end → slice_get (arc_value f.positions) p ≡ Some to → IsThreadRun (arc_value f.positions) p end →
    IsSetRun f p (p + min (included_count f to.slot - to.count) (min end f.end - p)) (min end f.end)
set_run f p end to inside at run =
    let ps = arc_value f.positions in
    let counts = included_count f in
    let n = counts to.slot in
    let tested : (q : ℕ) → p ≤ q → q < end → (m : ℕ) × (m ≡ to.count + (q - p)) × (nat_lt m n ≡ among ps counts q) = λ q low high.
    let (later, here) = at_index ps q (omega (arith, high, run.within)) in
    let after = run.each q to later low high at here in
    (later.count, after.1, among_at ps counts q n later here (ap counts (sym after.0))) in
    record {
      later = omega (arith, inside, run.some);
      order = (omega arith, omega (arith, inside, run.some));
      within = omega arith;
      in_set = λ q low high.
          let (m, is, same) = tested q low (omega (arith, high)) in
          ap (λ b. b && among ps counts q) (lt_true q f.end (omega (arith, high))) ∙ sym same ∙ lt_true m n (omega (arith, is, low, high));
      outside = λ q low high.
          let (m, is, same) = tested q (omega (arith, low)) (omega (arith, high)) in
          ap (λ b. b && among ps counts q) (lt_true q f.end (omega (arith, high))) ∙ sym same ∙ lt_false m n (omega (arith, is, low, high));
    }
