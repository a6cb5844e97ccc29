-- The ascending list of a set of places.
use Rattle.std.proofs.Common.{◌≡◌, ℕ, zero, suc, ◌<◌, inl, inr, Bool, true, false, cond, ◌==◌, List, [], ◌∷◌, ◌++◌, length, slice_get, Some, refl, sym, ap, subst, ◌∙◌, arith}
use Rattle.std.proofs.lemmas.Bool.{eqb-true, eq-eqb, false≢true, or_cases, or_left, or_right, cases_lt}
use Rattle.std.proofs.lemmas.Option.{none-some, same_Some, slice_get_within, slice_get-get_or, get_or_from_slice_get}
use Rattle.std.specs.List.{Contains, list_any}
use Rattle.trace_model.specs.Theory.Reordering.{Before}
use Rattle.trace_model.specs.Theory.Closure.{Places, ascending_places}
use Rattle.trace_model.proofs.Lists.{get-push, get-push_kept, get-push_last}

pub place_of : (xs : List ℕ) (q : ℕ) → Contains xs q → (k : ℕ) × (slice_get xs k ≡ Some q)
place_of xs q (k, l, e) = (k, slice_get-get_or xs k q l ∙ ap Some e)

pub contains_at : (xs : List ℕ) (q k : ℕ) → slice_get xs k ≡ Some q → Contains xs q
contains_at xs q k h = (k, slice_get_within xs k q h, get_or_from_slice_get xs k q q h)

pub before_left : (xs : List ℕ) (p q : ℕ) → Before xs p q → Contains xs p
before_left xs p q (i, j, l, a, b) = contains_at xs p i a

pub before_right : (xs : List ℕ) (p q : ℕ) → Before xs p q → Contains xs q
before_right xs p q (i, j, l, a, b) = contains_at xs q j b

-- what is listed is below n and in the set
pub ascending_so : (set : Places) (n k q : ℕ) → slice_get (ascending_places set n) k ≡ Some q → (q < n) × (set q ≡ true)
ascending_so set zero k q h = absurd (none-some q h)
ascending_so set (suc n) k q h = go (ascending_so set n k q) (set n) refl h
  where
    go : (slice_get (ascending_places set n) k ≡ Some q → (q < n) × (set q ≡ true)) → (b : Bool) → set n ≡ b →
        slice_get (cond b (ascending_places set n ++ n ∷ []) (ascending_places set n)) k ≡ Some q → (q < suc n) × (set q ≡ true)
    go more true e d = elim (get-push (ascending_places set n) n k q d) [
      | inl a ↦ (omega (arith, more a), (more a).1)
      | inr a ↦ (omega (arith, a.1), subst (λ x. set x ≡ true) a.1 e)
    ]
    go more false e d = (omega (arith, more d), (more d).1)

pub ascending_from : (set : Places) (n q : ℕ) → q < n → set q ≡ true → (k : ℕ) × (slice_get (ascending_places set n) k ≡ Some q)
ascending_from set zero q l h = absurd (omega arith)
ascending_from set (suc n) q l h = go (λ a. ascending_from set n q a h) (set n) refl
  where
    go : (q < n → (k : ℕ) × (slice_get (ascending_places set n) k ≡ Some q)) → (b : Bool) → set n ≡ b →
        (k : ℕ) × (slice_get (cond b (ascending_places set n ++ n ∷ []) (ascending_places set n)) k ≡ Some q)
    go more true e = elim (cases_lt q n) [
      | inl a ↦ ((more a).0, get-push_kept (ascending_places set n) n (more a).0 q (more a).1)
      | inr a ↦ let same : n ≡ q = omega arith in
          (length (ascending_places set n), subst (λ x. slice_get (ascending_places set n ++ n ∷ []) (length (ascending_places set n)) ≡ Some x) same (get-push_last (ascending_places set n) n))
    ]
    go more false e = elim (cases_lt q n) [
      | inl a ↦ more a
      | inr a ↦ let same : q ≡ n = omega arith in absurd (false≢true (sym e ∙ subst (λ x. set x ≡ true) same h))
    ]

pub ascending_increases : (set : Places) (n i j p q : ℕ) → i < j →
    slice_get (ascending_places set n) i ≡ Some p → slice_get (ascending_places set n) j ≡ Some q → p < q
ascending_increases set zero i j p q l a b = absurd (none-some p a)
ascending_increases set (suc n) i j p q l a b = go (ascending_increases set n i j p q l) (set n) a b
  where
    go : (slice_get (ascending_places set n) i ≡ Some p → slice_get (ascending_places set n) j ≡ Some q → p < q) → (x : Bool) →
        slice_get (cond x (ascending_places set n ++ n ∷ []) (ascending_places set n)) i ≡ Some p →
        slice_get (cond x (ascending_places set n ++ n ∷ []) (ascending_places set n)) j ≡ Some q → p < q
    go more true c d = elim (get-push (ascending_places set n) n i p c) [
      | inl e ↦ elim (get-push (ascending_places set n) n j q d) [
        | inl f ↦ more e f
        | inr f ↦ omega (arith, ascending_so set n i p e, f.1)
      ]
      | inr e ↦ elim (get-push (ascending_places set n) n j q d) [
        | inl f ↦ absurd (omega (arith, slice_get_within (ascending_places set n) j q f, e.0))
        | inr f ↦ absurd (omega (arith, f.0, e.0))
      ]
    ]
    go more false c d = more c d

pub ascending_distinct : (set : Places) (n i j q : ℕ) →
    slice_get (ascending_places set n) i ≡ Some q → slice_get (ascending_places set n) j ≡ Some q → i ≡ j
ascending_distinct set n i j q a b =
    elim (cases_lt i j) [
      | inl l ↦ absurd (omega (arith, ascending_increases set n i j q q l a b))
      | inr l ↦ elim (cases_lt j i) [
        | inl m ↦ absurd (omega (arith, ascending_increases set n j i q q m b a))
        | inr m ↦ omega arith
      ]
    ]

pub ascending_contains : (set : Places) (n q : ℕ) → Contains (ascending_places set n) q → (q < n) × (set q ≡ true)
ascending_contains set n q c = let (k, h) = place_of (ascending_places set n) q c in ascending_so set n k q h

pub contains_ascending : (set : Places) (n q : ℕ) → q < n → set q ≡ true → Contains (ascending_places set n) q
contains_ascending set n q l h = let r = ascending_from set n q l h in contains_at (ascending_places set n) q r.0 r.1

pub ascending_before : (set : Places) (n p q : ℕ) → Before (ascending_places set n) p q → p < q
ascending_before set n p q (i, j, l, a, b) = ascending_increases set n i j p q l a b

pub before_ascending : (set : Places) (n p q : ℕ) → p < q → q < n → set p ≡ true → set q ≡ true → Before (ascending_places set n) p q
before_ascending set n p q l m a b =
    let (i, x) = ascending_from set n p (omega arith) a in
    let (j, y) = ascending_from set n q m b in
    let ordered : i < j = elim (cases_lt i j) [
      | inl z ↦ z
      | inr z ↦ elim (cases_lt j i) [
        | inl w ↦ absurd (omega (arith, ascending_increases set n j i q p w y x))
        | inr w ↦
            let same : i ≡ j = omega arith in
            let both : Some p ≡ Some q = sym x ∙ subst (λ k. slice_get (ascending_places set n) k ≡ Some q) (sym same) y in
            absurd (omega (arith, same_Some p q both))
      ]
    ] in
    (i, j, ordered, x, y)

-- the places of a list, as a set
abbrev pub listed : List ℕ → Places
listed order q = list_any (λ p. p == q) order

pub listed_so : (order : List ℕ) (q : ℕ) → listed order q ≡ true → (k : ℕ) × (slice_get order k ≡ Some q)
listed_so [] q h = absurd (false≢true h)
listed_so (p ∷ ps) q h =
    let more : listed ps q ≡ true → (k : ℕ) × (slice_get ps k ≡ Some q) = listed_so ps q in
    elim (or_cases (p == q) (listed ps q) h) [
      | inl a ↦ (zero, ap Some (eqb-true p q a))
      | inr b ↦ (suc (more b).0, (more b).1)
    ]

pub listed_from : (order : List ℕ) (q k : ℕ) → slice_get order k ≡ Some q → listed order q ≡ true
listed_from [] q k h = absurd (none-some q h)
listed_from (p ∷ ps) q zero h = or_left (p == q) (listed ps q) (eq-eqb p q (same_Some p q h))
listed_from (p ∷ ps) q (suc k) h = or_right (p == q) (listed ps q) (listed_from ps q k h)

pub listed_contains : (order : List ℕ) (q : ℕ) → listed order q ≡ true → Contains order q
listed_contains order q h = let r = listed_so order q h in contains_at order q r.0 r.1

pub contains_listed : (order : List ℕ) (q : ℕ) → Contains order q → listed order q ≡ true
contains_listed order q c = let r = place_of order q c in listed_from order q r.0 r.1
