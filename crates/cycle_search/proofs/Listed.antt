-- The listed acquirers of locks, and the least of them.
use Rattle.std.proofs.Common.{◌≡◌, ℕ, ◌+◌, ◌*◌, ◌-◌, ◌<◌, ◌≤◌, ◌⊎◌, ◌↔◌, inl, inr, min, leb, true, false, List, [], ◌∷◌, ◌++◌, length, slice_get, get_or, Option, Some, None, refl, sym, ap, ◌∙◌, subst, arith}
use Rattle.std.proofs.lemmas.Option.{none-some, same_Some, slice_get_within, slice_get-get_or, get_or_from_slice_get}
use Rattle.std.proofs.lemmas.List.Elements.{Contains-append_left, Contains-push, Contains-push_cases}
use Rattle.std.proofs.lemmas.List.Sorted.{Contains-permutation, IsPermutation-sym}
use Rattle.std.proofs.lemmas.Bool.{cases_lt, leb-true, leb-false}
use Rattle.std.specs.List.{Contains}
use Rattle.std.specs.List.Sorted.{IsNonDecreasing, IsPartitionPoint, IsPermutation}
use Rattle.trace_model.specs.Theory.Dependencies.{Dependency}
use Rattle.trace_model.proofs.Theory.Unique.{has_contained, contains_had}
use Rattle.cycle_search.specs.declared.acquirers.Acquirers.{Acquirers}
use Rattle.cycle_search.specs.Acquirers.{key_of, Acquires, AreAcquirers, IsListed, IsLeast, IsLeastAbove, least_of}
use Rattle.cycle_search.specs.CycleSearch.{CompletesAsLast}

-- The keys are those of the first `i` dependencies.
abbrev pub HasKeys : List Dependency → ℕ → List ℕ → Type 0
HasKeys ds i keys =
    ((n : ℕ) (d : Dependency) → n < i → slice_get ds n ≡ Some d → Contains keys (key_of d.lock n))
    × ((key : ℕ) → Contains keys key → (n : ℕ) × (d : Dependency) × (slice_get ds n ≡ Some d) × (key ≡ key_of d.lock n))

pub keys-more : (ds : List Dependency) (i : ℕ) (d : Dependency) (keys : List ℕ) → slice_get ds i ≡ Some d → HasKeys ds i keys →
    HasKeys ds (i + 1) (keys ++ key_of d.lock i ∷ [])
keys-more ds i d keys at has = (
  (λ n e below here. elim (cases_lt n i) [
    | inl less ↦ Contains-append_left keys (key_of d.lock i ∷ []) _ (has.0 n e less here)
    | inr more ↦
        let same : i ≡ n = omega arith in
        let is : d ≡ e = same_Some d e (sym at ∙ ap (slice_get ds) same ∙ here) in
        subst (Contains (keys ++ key_of d.lock i ∷ [])) (omega (arith, same, ap (λ (x : Dependency). x.lock) is)) (Contains-push keys (key_of d.lock i))
  ]),
  (λ key c. elim (Contains-push_cases keys (key_of d.lock i) key c) [
    | inl before ↦ has.1 key before
    | inr last ↦ (i, d, at, sym last)
  ]),
)

pub keys-sorted : (ds : List Dependency) (i : ℕ) (xs ys : List ℕ) → IsPermutation xs ys → HasKeys ds i xs → HasKeys ds i ys
keys-sorted ds i xs ys moved has = (
  (λ n d below here. Contains-permutation xs ys _ moved (has.0 n d below here)),
  (λ key c. has.1 key (Contains-permutation ys xs key (IsPermutation-sym xs ys moved) c)),
)

pub acquirers-known : (ds : List Dependency) (a : Acquirers) → length ds ≤ 4294967296 → HasKeys ds (length ds) a.keys.items → IsNonDecreasing a.keys.items → AreAcquirers ds a
acquirers-known ds a few has up = record {
  exact = λ lock n. (
    (λ (small, c).
        let (m, d, at, same) = has.1 (key_of lock n) c in
        let inside = slice_get_within ds m d at in
        let here : m ≡ n = omega (arith, same, small, inside, few) in
        (d, subst (λ k. slice_get ds k ≡ Some d) here at, omega (arith, same, here))),
    (λ (d, at, takes).
        let inside = slice_get_within ds n d at in
        (omega (arith, inside, few), subst (λ l. Contains a.keys.items (key_of l n)) takes (has.0 n d inside at))),
  );
  ascends = up;
}

-- The first of the keys above a bound is the least.
module _ (keys : List ℕ) (up : IsNonDecreasing keys) (lock bound i : ℕ) (at : IsPartitionPoint (λ y. leb y (key_of lock bound) ≡ true) (λ y. leb y (key_of lock bound) ≡ false) keys i) where
  over : i < length keys → key_of lock bound < get_or keys i 0
  over inside = leb-false (get_or keys i 0) (key_of lock bound) (at.1 i 0 (omega arith) inside)

  least-key : (m : ℕ) → key_of lock bound < m → Contains keys m → (i < length keys) × (get_or keys i 0 ≤ m)
  least-key m more c =
      let h = has_contained keys m c in
      let k = h.0 in
      let inside = slice_get_within keys k m h.1 in
      elim (cases_lt k i) [
        | inl before ↦ absurd (omega (arith, more, leb-true m (key_of lock bound) (subst (λ y. leb y (key_of lock bound) ≡ true) (get_or_from_slice_get keys k m m h.1) (at.0 k m (omega arith) before))))
        | inr after ↦ (omega arith, omega (arith, up i k 0 after inside, get_or_from_slice_get keys k m 0 h.1))
      ]

  pub next-some : (found : Option ℕ) → i < length keys → ((n : ℕ) → found ≡ Some n ↔ ((n < 4294967296) × (get_or keys i 0 ≡ key_of lock n))) →
      IsLeastAbove bound (λ n. (n < 4294967296) × Contains keys (key_of lock n)) found
  next-some found inside exact = record {
    sound = λ n f.
        let h = (exact n).0 f in
        let more = over inside in
        (omega (arith, more, h.1), (h.0, subst (Contains keys) h.1 (contains_had keys (get_or keys i 0) (i, slice_get-get_or keys i 0 inside))));
    least = λ m (more, (small, c)).
        let within = (least-key (key_of lock m) (omega (arith, more)) c).1 in
        let above = over inside in
        let n = get_or keys i 0 - lock * 4294967296 in
        let is : get_or keys i 0 ≡ key_of lock n = omega (arith, above) in
        (n, (exact n).1 (omega (arith, within, small, is), is), omega (arith, within, is));
  }

  pub next-none : length keys ≤ i → IsLeastAbove bound (λ n. (n < 4294967296) × Contains keys (key_of lock n)) None
  next-none end = record {
    sound = λ n f. absurd (none-some n f);
    least = λ m (more, (small, c)). absurd (omega (arith, end, (least-key (key_of lock m) (omega (arith, more)) c).0));
  }

pub least-same : (P Q : ℕ → Type 0) (least : Option ℕ) → ((m : ℕ) → P m → Q m) → ((m : ℕ) → Q m → P m) → IsLeast P least → IsLeast Q least
least-same P Q least f g p = record { sound = λ n e. f n (p.sound n e); least = λ m q. p.least m (g m q) }

either : (a b : Option ℕ) (n : ℕ) → least_of a b ≡ Some n → (a ≡ Some n) ⊎ (b ≡ Some n)
either None b n e = inr e
either (Some a) None n e = inl e
either (Some a) (Some b) n e = let same = same_Some (min a b) n e in elim (cases_lt a b) [
  | inl l ↦ inl (ap Some (omega arith))
  | inr l ↦ inr (ap Some (omega arith))
]

left : (a b : Option ℕ) (n : ℕ) → a ≡ Some n → (m : ℕ) × (least_of a b ≡ Some m) × (m ≤ n)
left None b n e = absurd (none-some n e)
left (Some a) None n e = (n, e, omega arith)
left (Some a) (Some b) n e = (min a b, refl, omega (arith, same_Some a n e))

right : (a b : Option ℕ) (n : ℕ) → b ≡ Some n → (m : ℕ) × (least_of a b ≡ Some m) × (m ≤ n)
right None b n e = (n, e, omega arith)
right (Some a) None n e = absurd (none-some n e)
right (Some a) (Some b) n e = (min a b, refl, omega (arith, same_Some b n e))

-- The lesser of two least numbers.
pub least-join : (P Q R : ℕ → Type 0) (a b : Option ℕ) → ((m : ℕ) → P m → R m) → ((m : ℕ) → Q m → R m) → ((m : ℕ) → R m → P m ⊎ Q m) →
    IsLeast P a → IsLeast Q b → IsLeast R (least_of a b)
least-join P Q R a b f g h p q = record {
  sound = λ n e. elim (either a b n e) [
    | inl u ↦ f n (p.sound n u)
    | inr u ↦ g n (q.sound n u)
  ];
  least = λ m r. elim (h m r) [
    | inl u ↦ let x = p.least m u in let y = left a b x.0 x.1 in (y.0, y.1, omega (arith, x.2, y.2))
    | inr u ↦ let x = q.least m u in let y = right a b x.0 x.1 in (y.0, y.1, omega (arith, x.2, y.2))
  ];
}

-- The acquirers of the first member's locks are exactly the dependencies that close the path.
pub listed-takes_back : (ds : List Dependency) (path : List ℕ) (first : Dependency) (acquirers : Acquirers) (m : ℕ) → 0 < length path →
    slice_get ds (get_or path 0 0) ≡ Some first → AreAcquirers ds acquirers → IsListed (Acquires acquirers) first.held (length first.held) m ↔ CompletesAsLast ds path m
listed-takes_back ds path first acquirers m begun head t = (
  (λ (k, l, c).
      let (d, at, takes) = (t.exact (get_or first.held k 0) m).0 c in (
        first,
        d,
        (get_or path 0 0, slice_get-get_or path 0 0 begun, head),
        at,
        contains_had first.held d.lock (k, slice_get-get_or first.held k 0 l ∙ ap Some (sym takes)),
      )),
  (λ (f, d, (n, x, y), at, c).
      let same : f ≡ first = same_Some f first (sym y ∙ ap (slice_get ds) (sym (get_or_from_slice_get path 0 n 0 x)) ∙ head) in
      let h = has_contained first.held d.lock (subst (λ (z : Dependency). Contains z.held d.lock) same c) in (
        h.0,
        slice_get_within first.held h.0 d.lock h.1,
        (t.exact (get_or first.held h.0 0) m).1 (d, at, sym (get_or_from_slice_get first.held h.0 d.lock 0 h.1)),
      )),
)
