-- The places of fronts, ascending.
use Rattle.std.proofs.Common.{◌≡◌, ℕ, zero, suc, ◌+◌, ◌-◌, ◌<◌, ◌≤◌, inl, inr, Bool, true, false, List, [], ◌∷◌, ◌++◌, length, refl, sym, ap, subst, ◌∙◌, arith, append-nil, append_assoc}
use Rattle.std.proofs.lemmas.Bool.{cases_lt}
use Rattle.std.specs.List.{range_with_len}
use Rattle.trace_model.specs.Theory.Trace.{Trace}
use Rattle.trace_model.specs.Theory.Lawful.{IsWellFormed}
use Rattle.trace_model.specs.Theory.Closure.{Places, IsClosure, ascending_places}
use Rattle.trace_model.specs.Theory.Reordering.{AreReached}
use Rattle.trace_model.specs.Theory.Rows.{IsWitness}
use Rattle.trace_model.proofs.Theory.Existence.{closure_in_every}
use Rattle.trace_model.proofs.Theory.Unique.{closure_witness}
use Rattle.fronts.specs.declared.fronts.Fronts.{Fronts}
use Rattle.fronts.specs.State.{IsNextRange, included_set, included_places}
use Rattle.fronts.proofs.FrontLemmas.{lt_false}

-- If the set has no place from `m` on.
pub ascending_cut : (set : Places) (m n : ℕ) → m ≤ n → ((p : ℕ) → m ≤ p → p < n → set p ≡ false) →
    ascending_places set n ≡ ascending_places set m
ascending_cut set m zero l out = let e : m ≡ 0 = omega (arith, l) in rw e refl
ascending_cut set m (suc n) l out = elim (cases_lt m (suc n)) [
  | inl a ↦ rw (out n (omega (arith, a)) (omega arith)) (ascending_cut set m n (omega (arith, a)) (λ p k b. out p k (omega (arith, b))))
  | inr b ↦ let e : m ≡ suc n = omega (arith, l, b) in rw e refl
]

pub range_split : (a m n : ℕ) → range_with_len a (m + n) ≡ range_with_len a m ++ range_with_len (a + m) n
range_split a zero n = let e : 0 + n ≡ n = omega arith in let f : a + 0 ≡ a = omega arith in rw (e, f) refl
range_split a (suc m) n =
    let e : suc m + n ≡ suc (m + n) = omega arith in
    let f : a + suc m ≡ a + 1 + m = omega arith in
    rw (e, f) (ap (λ xs. a ∷ xs) (range_split (a + 1) m n))

-- If the set has the next `n` places.
pub ascending_range : (set : Places) (a n : ℕ) → ((p : ℕ) → a ≤ p → p < a + n → set p ≡ true) →
    ascending_places set (a + n) ≡ ascending_places set a ++ range_with_len a n
ascending_range set a zero each =
    let e : a + 0 ≡ a = omega arith in
    ap (ascending_places set) e ∙ sym (append-nil (ascending_places set a))
ascending_range set a (suc n) each =
    let e : a + suc n ≡ suc (a + n) = omega arith in
    let f : suc n ≡ n + 1 = omega arith in
    let before = ascending_range set a n (λ p l m. each p l (omega (arith, m))) in
    let last : ascending_places set (suc (a + n)) ≡ ascending_places set (a + n) ++ (a + n) ∷ [] =
    rw (each (a + n) (omega arith) (omega arith)) refl in
    ap (ascending_places set) e ∙ last ∙ ap (λ xs. xs ++ (a + n) ∷ []) before
    ∙ append_assoc (ascending_places set a) (range_with_len a n) ((a + n) ∷ [])
    ∙ ap (λ xs. ascending_places set a ++ xs) (sym (ap (range_with_len a) f ∙ range_split a n 1))

pub false_from : (b : Bool) → (b ≡ true → ⊥) → b ≡ false
false_from true h = absurd (h refl)
false_from false h = refl

pub at_end : (f : Fronts) (at : ℕ) → f.end ≤ at → ascending_places (included_set f) at ≡ included_places f
at_end f at l = ascending_cut (included_set f) f.end at l (λ p k m. rw (lt_false p f.end k) refl)

-- The range that follows `at`, of places that are found one by one.
pub next_range : (f : Fronts) (at start end : ℕ) → at ≤ start → start < end → end ≤ f.end →
    ((p : ℕ) → at ≤ p → p < start → included_set f p ≡ false) →
    ((p : ℕ) → start ≤ p → p < end → included_set f p ≡ true) → IsNextRange f at start end
next_range f at start end l m n out ins =
    let set = included_set f in
    let e : start + (end - start) ≡ end = omega (arith, m) in
    record {
      later = l;
      some = m;
      within = n;
      places =
          ap (ascending_places set) (sym e)
          ∙ ascending_range set start (end - start) (λ p a b. ins p a (omega (arith, b, m)))
          ∙ ap (λ xs. xs ++ range_with_len start (end - start)) (ascending_cut set at start l out);
    }

-- The places of a closure that is reached are in the trace, so those of the fronts are its witness.
pub fronts_witness : (s : Trace) → IsWellFormed s → (places : List ℕ) (f : Fronts) →
    IsClosure s places (included_set f) → AreReached s places → IsWitness s places (included_places f)
fronts_witness s w places f is reached =
    subst (IsWitness s places) same (closure_witness s w places set is reached)
  where
    set : ℕ → Bool
    set = included_set f

    in_trace : (q : ℕ) → set q ≡ true → q < length s
    in_trace q h = reached.1.in_trace q (closure_in_every s places q ((is q).0 h) reached.0 reached.1 reached.2)

    same : ascending_places set (length s) ≡ included_places f
    same = elim (cases_lt (length s) f.end) [
      | inl l ↦ sym (ascending_cut set (length s) f.end (omega (arith, l)) (λ p a b. false_from (set p) (λ h. omega (arith, a, in_trace p h))))
      | inr l ↦ at_end f (length s) (omega (arith, l))
    ]
