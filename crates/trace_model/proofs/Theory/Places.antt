-- The greatest or least place that passes a test; operations at places.
use Rattle.std.proofs.Common.{◌≡◌, ℕ, zero, suc, ◌+◌, ◌<◌, ◌≤◌, ◌⊎◌, inl, inr, Bool, true, false, cond, [], ◌∷◌, slice_get, Option, Some, None, refl, sym, ap, ◌∙◌, arith}
use Rattle.std.proofs.lemmas.Bool.{eqb-true, eq-eqb, false≢true, or_cases, or_left, or_right, cases_lt}
use Rattle.std.proofs.lemmas.Option.{none-some, same_Some}
use Rattle.std.specs.Option.{option_map_or}
use Rattle.trace_model.specs.declared.traces.event.Event.{Event}
use Rattle.trace_model.specs.declared.traces.event.Op.{Op}
use Rattle.trace_model.specs.declared.traces.event.Op.TheVariants.{Fork, Join, Acquire, Release, Read, Write}
use Rattle.trace_model.specs.Theory.Trace.{Trace, event, Does, op_eq, does, occurs, last_place, first_place}

-- which branch gave the value
pub cond_some_cases : (b : Bool) (n p : ℕ) (o : Option ℕ) → cond b (Some n) o ≡ Some p →
    ((b ≡ true) × (n ≡ p)) ⊎ ((b ≡ false) × (o ≡ Some p))
cond_some_cases true n p o e = inl (refl, same_Some n p e)
cond_some_cases false n p o e = inr (refl, e)

pub cond_none : (b : Bool) (n : ℕ) (o : Option ℕ) → cond b (Some n) o ≡ None → (b ≡ false) × (o ≡ None)
cond_none true n o e = absurd (none-some n (sym e))
cond_none false n o e = (refl, e)

abbrev pub IsLastPlace : (ℕ → Bool) → ℕ → ℕ → Type 0
IsLastPlace test n p = (p < n) × (test p ≡ true) × ((u : ℕ) → p < u → u < n → test u ≡ true → ⊥)

pub last_place_some : (test : ℕ → Bool) (n p : ℕ) → last_place test n ≡ Some p → IsLastPlace test n p
last_place_some test zero p e = absurd (none-some p e)
last_place_some test (suc n) p e =
    let more : last_place test n ≡ Some p → IsLastPlace test n p = last_place_some test n p in
    elim (cond_some_cases (test n) n p (last_place test n) e) [
      | inl h ↦ (omega arith, rw (← h.1) h.0, λ u a b _. omega arith)
      | inr h ↦ (omega (arith, more h.1), (more h.1).1, λ u a b t. grind (arith, (more h.1).2 u, false≢true))
    ]

pub last_place_none : (test : ℕ → Bool) (n : ℕ) → last_place test n ≡ None →
    (u : ℕ) → u < n → test u ≡ true → ⊥
last_place_none test zero e u l t = omega arith
last_place_none test (suc n) e u l t =
    let h = cond_none (test n) n (last_place test n) e in
    grind (arith, last_place_none test n h.1 u, h.0)

-- the last place is the only one
pub last_place_is : (test : ℕ → Bool) (n p : ℕ) → IsLastPlace test n p → last_place test n ≡ Some p
last_place_is test n p h = go (last_place test n) refl
  where
    go : (o : Option ℕ) → last_place test n ≡ o → o ≡ Some p
    go None e = absurd (last_place_none test n e p h.0 h.1)
    go (Some q) e =
        let k = last_place_some test n q e in
        elim (cases_lt p q) [
          | inl l ↦ absurd (h.2 q l k.0 k.1)
          | inr l ↦ elim (cases_lt q p) [
            | inl m ↦ absurd (k.2 p m h.0 h.1)
            | inr m ↦ ap Some (omega arith)
          ]
        ]

abbrev pub IsFirstPlace : (ℕ → Bool) → ℕ → ℕ → ℕ → Type 0
IsFirstPlace test k n p =
    (k ≤ p) × (p < k + n) × (test p ≡ true) × ((u : ℕ) → k ≤ u → u < p → test u ≡ true → ⊥)

pub first_place_some : (test : ℕ → Bool) (k n p : ℕ) → first_place test k n ≡ Some p → IsFirstPlace test k n p
first_place_some test k zero p e = absurd (none-some p e)
first_place_some test k (suc n) p e =
    let more : first_place test (suc k) n ≡ Some p → IsFirstPlace test (suc k) n p = first_place_some test (suc k) n p in
    elim (cond_some_cases (test k) k p (first_place test (suc k) n) e) [
      | inl h ↦ (omega arith, omega arith, rw (← h.1) h.0, λ u a b _. omega arith)
      | inr h ↦ (
        omega (arith, more h.1),
        omega (arith, more h.1),
        (more h.1).2,
        λ u a b t. elim (cases_lt k u) [
          | inl l ↦ (more h.1).3 u l b t
          | inr l ↦ let same : u ≡ k = omega arith in false≢true (sym h.0 ∙ rw (← same) t)
        ],
      )
    ]

pub first_place_none : (test : ℕ → Bool) (k n : ℕ) → first_place test k n ≡ None →
    (u : ℕ) → k ≤ u → u < k + n → test u ≡ true → ⊥
first_place_none test k zero e u a b t = omega arith
first_place_none test k (suc n) e u a b t =
    let h = cond_none (test k) k (first_place test (suc k) n) e in
    elim (cases_lt k u) [
      | inl l ↦ first_place_none test (suc k) n h.1 u l (omega arith) t
      | inr l ↦ let same : u ≡ k = omega arith in false≢true (sym h.0 ∙ rw (← same) t)
    ]

pub first_place_is : (test : ℕ → Bool) (k n p : ℕ) → IsFirstPlace test k n p → first_place test k n ≡ Some p
first_place_is test k n p h = go (first_place test k n) refl
  where
    go : (o : Option ℕ) → first_place test k n ≡ o → o ≡ Some p
    go None e = absurd (first_place_none test k n e p h.0 h.1 h.2)
    go (Some q) e =
        let f = first_place_some test k n q e in
        elim (cases_lt p q) [
          | inl l ↦ absurd (f.3 p h.0 l h.2)
          | inr l ↦ elim (cases_lt q p) [
            | inl m ↦ absurd (h.3 q f.0 m f.2)
            | inr m ↦ ap Some (omega arith)
          ]
        ]

-- equal operations
pub op_eq_same : (a b : Op) → op_eq a b ≡ true → a ≡ b
op_eq_same (Fork a) (Fork b) e = ap Fork (eqb-true a b e)
op_eq_same (Join a) (Join b) e = ap Join (eqb-true a b e)
op_eq_same (Acquire a) (Acquire b) e = ap Acquire (eqb-true a b e)
op_eq_same (Release a) (Release b) e = ap Release (eqb-true a b e)
op_eq_same (Read a) (Read b) e = ap Read (eqb-true a b e)
op_eq_same (Write a) (Write b) e = ap Write (eqb-true a b e)
op_eq_same _ _ e = absurd (false≢true e)

pub op_eq_itself : (a : Op) → op_eq a a ≡ true
op_eq_itself (Fork a) = eq-eqb a a refl
op_eq_itself (Join a) = eq-eqb a a refl
op_eq_itself (Acquire a) = eq-eqb a a refl
op_eq_itself (Release a) = eq-eqb a a refl
op_eq_itself (Read a) = eq-eqb a a refl
op_eq_itself (Write a) = eq-eqb a a refl

-- `does` decides `Does`
pub does_so : (s : Trace) (o : Op) (p : ℕ) → does s o p ≡ true → Does s p o
does_so s o p h = go (slice_get s p) refl h
  where
    go : (r : Option Event) → slice_get s p ≡ r → option_map_or (λ e. op_eq e.op o) r false ≡ true → Does s p o
    go None e k = absurd (false≢true k)
    go (Some x) e k = (x.thread, e ∙ ap (λ y. Some (event x.thread y)) (op_eq_same x.op o k))

pub does_from : (s : Trace) (o : Op) (p : ℕ) → Does s p o → does s o p ≡ true
does_from s o p (t, h) = rw h (op_eq_itself o)

-- `stands` decides that some place has the operation
pub stands_so : (s : Trace) (o : Op) → occurs s o ≡ true → (p : ℕ) × Does s p o
stands_so [] o h = absurd (false≢true h)
stands_so (e ∷ s) o h =
    let more : occurs s o ≡ true → (p : ℕ) × Does s p o = stands_so s o in
    elim (or_cases (op_eq e.op o) (occurs s o) h) [
      | inl k ↦ (zero, (e.thread, ap (λ y. Some (event e.thread y)) (op_eq_same e.op o k)))
      | inr k ↦ let r = more k in (suc r.0, r.1)
    ]

pub stands_from : (s : Trace) (o : Op) (p : ℕ) → Does s p o → occurs s o ≡ true
stands_from [] o p (t, h) = absurd (none-some (event t o) h)
stands_from (e ∷ s) o zero (t, h) =
    let k : op_eq e.op o ≡ true = rw (same_Some e (event t o) h) (op_eq_itself o) in
    or_left (op_eq e.op o) (occurs s o) k
stands_from (e ∷ s) o (suc p) (t, h) =
    or_right (op_eq e.op o) (occurs s o) (stands_from s o p (t, h))
