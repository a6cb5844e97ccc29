-- Searches that have followed places.
use Rattle.std.proofs.Common.{◌≡◌, ℕ, ◌+◌, ◌<◌, ◌≤◌, ◌⊎◌, inl, inr, List, [], ◌∷◌, ◌++◌, length, slice_get, Option, Some, None, MatchOption, refl, sym, subst, ◌∙◌, arith}
use Rattle.std.proofs.lemmas.List.Elements.{Contains-append_left, Contains-push}
use Rattle.std.proofs.lemmas.Bool.{cases_lt}
use Rattle.std.proofs.lemmas.Option.{none-some, same_Some}
use Rattle.std.specs.List.{Contains}
use Rattle.trace_model.specs.Theory.Trace.{Trace, OfThread}
use Rattle.trace_model.specs.Theory.Held.{BeginsOn}
use Rattle.trace_model.specs.Theory.Lawful.{IsWellFormed}
use Rattle.trace_model.specs.Theory.Lookups.{release}
use Rattle.trace_model.specs.Theory.Reordering.{AreReached}
use Rattle.trace_model.specs.Theory.Closure.{IsClosed}
use Rattle.trace_model.proofs.Lists.{at_index}
use Rattle.trace_model.proofs.Theory.Ascending.{listed, listed_contains, contains_listed}
use Rattle.trace_model.proofs.Theory.Least.{at_thread}
use Rattle.trace_model.proofs.Theory.Stability.{reached_from}
use Rattle.trace_index.specs.Numbers.{thread_before}
use Rattle.explain.specs.declared.tables.Prefix.{Prefix}
use Rattle.explain.specs.declared.search.Range.{Range}
use Rattle.explain.specs.declared.search.DerivationSearch.{DerivationSearch}
use Rattle.explain.specs.Tables.{prefix_at}
use Rattle.explain.specs.DerivationSearch.{IsUpTo, IsDerived, IsIn, InRange, Extends, HasFork, IsBefore, IsLast, IsLater, HasFollowed, IsCaughtNowhere}
use Rattle.explain.proofs.Adding.{covers_more, covers_before, has_up_to}
use Rattle.explain.proofs.LastSections.{follows_stays}
use Rattle.explain.proofs.Walking.{before_some, before_none}

section_derived : (s : Trace) (xs : List ℕ) (H : ℕ → Type 0) (a b r l : ℕ) → a < b → BeginsOn s a l → BeginsOn s b l → Contains xs a → Contains xs b → release s a ≡ Some r →
    (o : Option Prefix) → MatchOption o ((q : ℕ) → Contains xs q → BeginsOn s q l → ⊥) (λ k. IsLast s xs H l k.last) → H r
section_derived s xs H a b r l less x y ca cb e None h = absurd (h a ca x)
section_derived s xs H a b r l less x y ca cb e (Some g) (c, d, f) = (f a ca x).1 (omega (arith, less, (f b cb y).0)) r e

-- once each derived place is followed, the followed places are closed
module _ (s : Trace) (followed : List ℕ) (x : DerivationSearch) (f : HasFollowed s followed x) (all : (p : ℕ) → IsDerived s x p → Contains followed p) where
  closes : IsClosed s (listed followed)
  closes = record {
    threads = λ p q h e. contains_listed followed p (all p (f.required q p (listed_contains followed q h) (inl e)));
    forks_joins = λ p q h e. contains_listed followed p (all p (f.required q p (listed_contains followed q h) (inr (inl e))));
    writers = λ w q h e. contains_listed followed w (all w (f.required q w (listed_contains followed q h) (inr (inr e))));
    sections = λ a b r l less m n h k e. contains_listed followed r (all r
        (section_derived s followed (IsDerived s x) a b r l less m n (listed_contains followed a h) (listed_contains followed b k) e (prefix_at x.locks l) (f.sections l)));
  }

  pub finished : IsWellFormed s → (places : List ℕ) → ((p : ℕ) → IsBefore s places p → IsDerived s x p) → IsCaughtNowhere s x places → AreReached s places
  finished w places before nowhere = reached_from s w places (listed followed) closes
      (λ p q c e. contains_listed followed q (all q (before q (p, c, e))))
      (λ p c h. nowhere p c (f.derived p (listed_contains followed p h)))

-- nothing was followed
pub nothing_followed : (s : Trace) (x : DerivationSearch) → ((l : ℕ) → prefix_at x.locks l ≡ None) → HasFollowed s [] x
nothing_followed s x none = record {
  derived = λ q (k, l, e). absurd (omega arith);
  required = λ q p (k, l, e). absurd (omega arith);
  sections = λ l. subst (λ o. MatchOption o ((b : ℕ) → Contains [] b → BeginsOn s b l → ⊥) (λ r. IsLast s [] (IsDerived s x) l r.last)) (sym (none l))
      (λ b (k, less, e) h. omega arith);
}

pub followed_stays : (s : Trace) (followed : List ℕ) (x y : DerivationSearch) → Extends s x y → y.locks ≡ x.locks → HasFollowed s followed x → HasFollowed s followed y
followed_stays s followed x y e locks f = record {
  derived = λ q c. e.has q (f.derived q c);
  required = λ q p c r. e.has p (f.required q p c r);
  sections = follows_stays s followed x y e.has locks f.sections;
}

-- a place of a prefix is derived and covered, and so is its fork
pub place_in : (s : Trace) (places : List ℕ) (x y : DerivationSearch) (prefix : Prefix) (t place : ℕ) → OfThread s prefix.last t → OfThread s place t × (place ≤ prefix.last) →
    Extends s x y → IsIn s places x prefix → IsIn s places y (record { last = place; reason = prefix.reason })
place_in s places x y prefix t place own (o, low) e here =
    let up : IsUpTo s place (Some prefix.last) = (prefix.last, t, refl, o, own, low) in
    (has_up_to s y place prefix.last up (e.has prefix.last here.0), covers_before s places y place prefix up (covers_more s places x y e prefix here.1))

pub fork_at : (s : Trace) (x : DerivationSearch) (last t place : ℕ) → OfThread s last t → OfThread s place t → HasFork s x last → HasFork s x place
fork_at s x last t place own here fork u p o d = fork u p (subst (OfThread s last) (sym (at_thread s place u t o here)) own) d

-- a walk back along a thread has followed the places after the next one
pub walk_goes_on : (s : Trace) (t last place : ℕ) (xs : List ℕ) → OfThread s place t → OfThread s last t →
    ((q : ℕ) → IsUpTo s q (Some last) → ((n : ℕ) → Some place ≡ Some n → n < q) → Contains xs q) →
    (q : ℕ) → IsUpTo s q (Some last) → ((n : ℕ) → thread_before s place ≡ Some n → n < q) → Contains (xs ++ place ∷ []) q
walk_goes_on s t last place xs here ends h q (f, u, e, a, b, l) after = elim (cases_lt place q) [
  | inl less ↦ Contains-append_left xs (place ∷ []) q (h q (f, u, e, a, b, l) (λ n k. omega (arith, less, same_Some place n k)))
  | inr low ↦ elim (cases_lt q place) [
    | inl less ↦ absurd (past less (thread_before s place) refl)
    | inr up ↦ let same : place ≡ q = omega arith in subst (Contains (xs ++ place ∷ [])) same (Contains-push xs place)
  ]
]
  where
    thread : OfThread s q t
    thread = subst (OfThread s q) (at_thread s last u t (subst (λ z. OfThread s z u) (sym (same_Some last f e)) b) ends) a

    past : q < place → (o : Option ℕ) → thread_before s place ≡ o → ⊥
    past less None k = before_none s t place here k q less thread
    past less (Some n) k = (before_some s t place n here k).2 q (after n k) less thread

-- where a walk ends: at the first place of the thread, or after its range
pub walk_ends : (s : Trace) (range : Range) (next : Option ℕ) (xs : List ℕ) →
    ((q : ℕ) → IsUpTo s q (Some range.prefix.last) → ((n : ℕ) → next ≡ Some n → n < q) → Contains xs q) →
    (next ≡ None) ⊎ ((n : ℕ) × (next ≡ Some n) × ((a : ℕ) × (range.after ≡ Some a) × (n ≤ a))) → (q : ℕ) → InRange s range q → Contains xs q
walk_ends s range next xs h (inl none) q (up, after) = h q up (λ n k. absurd (none-some n (sym none ∙ k)))
walk_ends s range next xs h (inr (n, is, (a, e, low))) q (up, after) = h q up (λ m k. omega (arith, low, after a e, same_Some n m (sym is ∙ k)))

-- the places of the first k ranges are followed, or in a later range
abbrev pub HasWalked : Trace → DerivationSearch → List ℕ → ℕ → Type 0
HasWalked s x followed k = (i : ℕ) (r : Range) (p : ℕ) → i < k → slice_get x.ranges.items i ≡ Some r → InRange s r p →
    Contains followed p ⊎ IsLater s x k p

-- a later range of the first search is range k or one of the second after it
later_more : (s : Trace) (x y : DerivationSearch) (ys : List ℕ) (k : ℕ) (range : Range) → Extends s x y → slice_get x.ranges.items k ≡ Some range →
    ((q : ℕ) → InRange s range q → Contains ys q ⊎ IsLater s y (k + 1) q) → (p : ℕ) → IsLater s x k p → Contains ys p ⊎ IsLater s y (k + 1) p
later_more s x y ys k range e here h p (j, r, from, at, inside) = elim (cases_lt k j) [
  | inl less ↦ inr (j, r, omega (arith, less), e.ranges j r at, inside)
  | inr low ↦
      let index : j ≡ k = omega (arith, low, from) in
      let same : r ≡ range = same_Some r range (sym at ∙ subst (λ n. slice_get x.ranges.items n ≡ Some range) (sym index) here) in
      h p (subst (λ (v : Range). InRange s v p) same inside)
]

pub walked_more : (s : Trace) (x y : DerivationSearch) (xs ys : List ℕ) (k : ℕ) (range : Range) → Extends s x y → ((q : ℕ) → Contains xs q → Contains ys q) →
    slice_get x.ranges.items k ≡ Some range → k < length x.ranges.items → ((q : ℕ) → InRange s range q → Contains ys q ⊎ IsLater s y (length x.ranges.items) q) →
    HasWalked s x xs k → HasWalked s y ys (k + 1)
walked_more s x y xs ys k range e more here within h walked i r p low is inside =
    let (z, there) = at_index x.ranges.items i (omega (arith, low, within)) in
    let same : z ≡ r = same_Some z r (sym (e.ranges i z there) ∙ is) in
    let after : (q : ℕ) → InRange s range q → Contains ys q ⊎ IsLater s y (k + 1) q = λ q t. elim (h q t) [
      | inl c ↦ inl c
      | inr (j, v, from, at, v_has) ↦ inr (j, v, omega (arith, from, within), at, v_has)
    ] in
    elim (cases_lt i k) [
      | inl less ↦ elim (walked i z p less there (subst (λ (v : Range). InRange s v p) (sym same) inside)) [
        | inl c ↦ inl (more p c)
        | inr later ↦ later_more s x y ys k range e here after p later
      ]
      | inr up ↦
          let index : i ≡ k = omega (arith, low) in
          let prefix_at : range ≡ z = same_Some range z (sym here ∙ subst (λ n. slice_get x.ranges.items n ≡ Some z) index there) in
          after p (subst (λ (v : Range). InRange s v p) (sym (prefix_at ∙ same)) inside)
    ]
