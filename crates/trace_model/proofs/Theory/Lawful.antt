-- Facts of well-formed traces.
use Rattle.std.proofs.Common.{◌≡◌, ℕ, ◌<◌, ◌⊎◌, inl, inr, Bool, true, false, cond, not, ◌==◌, leb, ◌&&◌, ◌||◌, length, take, slice_get, Option, Some, None, refl, sym, ap, subst, ◌∙◌, arith}
use Rattle.std.proofs.lemmas.Bool.{eqb-true, eqb-false, false≢true, or_parts, and_cases, cases_lt, not-false}
use Rattle.std.proofs.lemmas.Option.{none-some, same_Some}
use Rattle.trace_model.specs.declared.traces.event.Op.{Op}
use Rattle.trace_model.specs.declared.traces.event.Op.TheVariants.{Fork, Join}
use Rattle.trace_model.specs.declared.refusal.Refusal.{Refusal}
use Rattle.trace_model.specs.declared.refusal.Refusal.TheVariants.{Full, Unforked, Ended, AlreadyForked, JoinsItself, JoinUnknown, JoinedTwice}
use Rattle.trace_model.specs.declared.limits.TheConstants.{MAX_EVENTS}
use Rattle.trace_model.specs.Theory.Trace.{Trace, event, At, Does, OfThread, occurs}
use Rattle.trace_model.specs.Theory.Lawful.{op_refusal_of, refusal_of, IsWellFormed}
use Rattle.trace_model.proofs.Theory.Places.{stands_so, stands_from}
use Rattle.trace_model.proofs.Lists.{get-take, get-take_past}

-- if a refusal does not apply, then the later tests decide
pub passes : (b : Bool) (x : Refusal) (o : Option Refusal) → cond b (Some x) o ≡ None → (b ≡ false) × (o ≡ None)
passes true x o e = absurd (none-some x (sym e))
passes false x o e = (refl, e)

pub passes_not : (b : Bool) (x : Refusal) → cond b None (Some x) ≡ None → b ≡ true
passes_not true x e = refl
passes_not false x e = absurd (none-some x (sym e))

-- the thread is 0 or its fork is in the trace, its join is not, and the tests of the operation pass
pub lawful_parts : (limit : ℕ) (s : Trace) (t : ℕ) (o : Op) → refusal_of limit s (event t o) ≡ None →
    ((t ≡ 0) ⊎ (occurs s (Fork t) ≡ true)) × (occurs s (Join t) ≡ false) × (op_refusal_of s t o ≡ None)
lawful_parts limit s t o h =
    let a = passes (leb limit (length s)) Full _ h in
    let b = passes (not (t == 0) && not (occurs s (Fork t))) Unforked _ a.1 in
    let c = passes (occurs s (Join t)) Ended _ b.1 in (
      elim (and_cases (not (t == 0)) (not (occurs s (Fork t))) b.0) [
        | inl x ↦ inl (eqb-true t 0 (not-false (t == 0) x))
        | inr x ↦ inr (not-false (occurs s (Fork t)) x)
      ],
      c.0,
      c.1,
    )

-- some place before p has the operation
pub before_so : (s : Trace) (p : ℕ) (o : Op) → occurs (take p s) o ≡ true → (q : ℕ) × (q < p) × Does s q o
before_so s p o h =
    let (q, (t, k)) = stands_so (take p s) o h in
    let below = get-take_past p s q (event t o) k in
    (q, below, (t, sym (get-take p s q below) ∙ k))

pub before_from : (s : Trace) (p : ℕ) (o : Op) (q : ℕ) → q < p → Does s q o → occurs (take p s) o ≡ true
before_from s p o q below (t, k) = stands_from (take p s) o q (t, get-take p s q below ∙ k)

pub no_before : (s : Trace) (p : ℕ) (o : Op) → occurs (take p s) o ≡ false → (q : ℕ) → q < p → Does s q o → ⊥
no_before s p o h q below d = false≢true (sym h ∙ before_from s p o q below d)

-- the tests that the event at a place passed
pub passed : (s : Trace) → IsWellFormed s → (q t : ℕ) (o : Op) → At s q (event t o) →
    ((t ≡ 0) ⊎ (occurs (take q s) (Fork t) ≡ true)) × (occurs (take q s) (Join t) ≡ false) × (op_refusal_of (take q s) t o ≡ None)
passed s w q t o h = lawful_parts MAX_EVENTS (take q s) t o (w q (event t o) h)

-- a thread other than 0 is forked before each of its places
pub forked : (s : Trace) → IsWellFormed s → (q t : ℕ) → OfThread s q t →
    (t ≡ 0) ⊎ ((f : ℕ) × (f < q) × Does s f (Fork t))
forked s w q t (o, h) = elim (passed s w q t o h).0 [ inl a ↦ inl a | inr b ↦ inr (before_so s q (Fork t) b) ]

-- no place of a thread is after its join
pub no_join_before : (s : Trace) → IsWellFormed s → (j q t : ℕ) → Does s j (Join t) → OfThread s q t → j < q → ⊥
no_join_before s w j q t d (o, h) below = no_before s q (Join t) (passed s w q t o h).1 j below d

-- thread 0 is not forked, and no thread is forked twice
pub fork_first : (s : Trace) → IsWellFormed s → (f c : ℕ) → Does s f (Fork c) →
    (c ≡ 0 → ⊥) × ((g : ℕ) → g < f → Does s g (Fork c) → ⊥)
fork_first s w f c (t, h) =
    let a = passes (c == 0 || occurs (take f s) (Fork c)) AlreadyForked _ (passed s w f t (Fork c) h).2 in
    let b = or_parts (c == 0) (occurs (take f s) (Fork c)) a.0 in
    ((λ e. eqb-false c 0 b.0 e), no_before s f (Fork c) b.1)

pub fork_once : (s : Trace) → IsWellFormed s → (f g c : ℕ) → Does s f (Fork c) → Does s g (Fork c) → f ≡ g
fork_once s w f g c d e =
    elim (cases_lt f g) [
      | inl a ↦ absurd ((fork_first s w g c e).1 f a d)
      | inr a ↦ elim (cases_lt g f) [
        | inl b ↦ absurd ((fork_first s w f c d).1 g b e)
        | inr b ↦ omega arith
      ]
    ]

-- a fork is before each place of its thread
pub fork_before : (s : Trace) → IsWellFormed s → (f q t : ℕ) → Does s f (Fork t) → OfThread s q t → f < q
fork_before s w f q t d o = elim (forked s w q t o) [
  | inl a ↦ absurd ((fork_first s w f t d).0 a)
  | inr g ↦ subst (λ x. x < q) (fork_once s w g.0 f t g.2 d) g.1
]

-- the tests that a join passed
pub join_passed : (s : Trace) → IsWellFormed s → (j c t : ℕ) → At s j (event t (Join c)) →
    (c ≡ t → ⊥) × ((f : ℕ) × (f < j) × Does s f (Fork c)) × ((i : ℕ) → i < j → Does s i (Join c) → ⊥)
join_passed s w j c t h =
    let a = passes (c == t) JoinsItself _ (passed s w j t (Join c) h).2 in
    let b = passes (c == 0 || not (occurs (take j s) (Fork c))) JoinUnknown _ a.1 in
    let d = passes (occurs (take j s) (Join c)) JoinedTwice _ b.1 in
    let e = or_parts (c == 0) (not (occurs (take j s) (Fork c))) b.0 in (
      (λ x. eqb-false c t a.0 x),
      before_so s j (Fork c) (not-false (occurs (take j s) (Fork c)) e.1),
      no_before s j (Join c) d.0,
    )

pub join_after : (s : Trace) → IsWellFormed s → (j q c : ℕ) → Does s j (Join c) → OfThread s q c → q < j
join_after s w j q c (t, h) (o, k) =
    elim (cases_lt q j) [
      | inl a ↦ a
      | inr a ↦ elim (cases_lt j q) [
        | inl b ↦ absurd (no_join_before s w j q c (t, h) (o, k) b)
        | inr b ↦
            let same : q ≡ j = omega arith in
            let both : Some (event c o) ≡ Some (event t (Join c)) = sym k ∙ subst (λ x. slice_get s x ≡ Some (event t (Join c))) (sym same) h in
            absurd ((join_passed s w j c t h).0 (ap (λ e. e.thread) (same_Some (event c o) (event t (Join c)) both)))
      ]
    ]

pub fork_before_join : (s : Trace) → IsWellFormed s → (f j c : ℕ) → Does s f (Fork c) → Does s j (Join c) → f < j
fork_before_join s w f j c d (t, h) =
    let g = (join_passed s w j c t h).1 in
    subst (λ x. x < j) (fork_once s w g.0 f c g.2 d) g.1
