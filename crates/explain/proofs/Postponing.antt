-- The end of a range, which a search follows later.
use Rattle.std.proofs.Common.{◌≡◌, ℕ, zero, suc, ◌<◌, ◌≤◌, ◌⊎◌, ◌∙◌, inl, inr, List, [], ◌∷◌, ◌++◌, append-nil, length, slice_get, Some, refl, sym, subst, arith}
use Rattle.std.proofs.lemmas.Bool.{cases_lt}
use Rattle.std.proofs.lemmas.Option.{same_Some, slice_get_within}
use Rattle.std.specs.List.{Contains}
use Rattle.trace_model.specs.Theory.Trace.{Trace, OfThread}
use Rattle.trace_model.proofs.Lists.{at_index, get-append, get-push, get-push_last}
use Rattle.trace_model.proofs.Theory.Least.{at_thread}
use Rattle.explain.specs.declared.search.Range.{Range}
use Rattle.explain.specs.declared.search.DerivationSearch.{DerivationSearch}
use Rattle.explain.specs.DerivationSearch.{IsUpTo, IsIn, InRange, IsLater, IsSearch, Extends, Postpones}

module _ (s : Trace) (places : List ℕ) (x : DerivationSearch) (range : Range) (n slice : ℕ) (z : DerivationSearch)
    (items : z.ranges.items ≡ x.ranges.items ++ record { prefix = record { last = n; reason = range.prefix.reason }; after = range.after; slice = slice } ∷ [])
    (is : IsSearch s places x) (here : IsIn s places x (record { last = n; reason = range.prefix.reason })) where
  abbrev rest : Range
  rest = record { prefix = record { last = n; reason = range.prefix.reason }; after = range.after; slice = slice }

  abbrev y : DerivationSearch
  y = record x { ranges = z.ranges }

  kept : (i : ℕ) (r : Range) → slice_get x.ranges.items i ≡ Some r → slice_get z.ranges.items i ≡ Some r
  kept i r e = subst (λ rs. slice_get rs i ≡ Some r) (sym items) (get-append x.ranges.items (rest ∷ []) i (slice_get_within x.ranges.items i r e) ∙ e)

  search : IsSearch s places y
  search = record {
    derives = is.derives;
    indices = is.indices;
    distinct = is.distinct;
    threads = is.threads;
    locks = is.locks;
    ranges = λ i r e. elim (get-push x.ranges.items rest i r (subst (λ rs. slice_get rs i ≡ Some r) items e)) [
      | inl a ↦ is.ranges i r a
      | inr a ↦ subst (λ (k : Range). IsIn s places x k.prefix) a.1 here
    ];
    all = λ p h. let (i, r, e, within) = is.all p h in (i, r, kept i r e, within);
  }

  pub postponed : Postpones s places x range n (record x { ranges = z.ranges })
  postponed = (
    search,
    record { entries = ([], sym (append-nil x.entries.items)); ranges = kept; has = λ p h. h },
    λ q up after. (
      length x.ranges.items,
      rest,
      omega arith,
      subst (λ rs. slice_get rs (length x.ranges.items) ≡ Some rest) (sym items) (get-push_last x.ranges.items rest),
      (up, after),
    ),
  )

-- A search that extends another has at least as many ranges.
pub more_ranges : (s : Trace) (x y : DerivationSearch) → Extends s x y → length x.ranges.items ≤ length y.ranges.items
more_ranges s x y e = go (length x.ranges.items) refl
  where
    go : (n : ℕ) → length x.ranges.items ≡ n → length x.ranges.items ≤ length y.ranges.items
    go zero none = omega (arith, none)
    go (suc m) some =
        let (r, at) = at_index x.ranges.items m (omega (arith, some)) in
        let within = slice_get_within y.ranges.items m r (e.ranges m r at) in omega (arith, some, within)

-- After a walk down to place n, the places of its range are followed or in the range that is added.
pub walked_or_later : (s : Trace) (range : Range) (t n : ℕ) (xs : List ℕ) (x y z : DerivationSearch) → OfThread s range.prefix.last t → OfThread s n t → Extends s x y →
    ((q : ℕ) → IsUpTo s q (Some range.prefix.last) → ((m : ℕ) → Some n ≡ Some m → m < q) → Contains xs q) →
    ((q : ℕ) → IsUpTo s q (Some n) → ((a : ℕ) → range.after ≡ Some a → a < q) → IsLater s z (length y.ranges.items) q) →
    (q : ℕ) → InRange s range q → Contains xs q ⊎ IsLater s z (length x.ranges.items) q
walked_or_later s range t n xs x y z own on e done later q (up, after) = elim (cases_lt n q) [
  | inl less ↦ inl (done q up (λ m k. omega (arith, less, same_Some n m k)))
  | inr low ↦
      let (f, u, is, a, b, l) = up in
      let thread : u ≡ t = at_thread s range.prefix.last u t (subst (λ z. OfThread s z u) (sym (same_Some range.prefix.last f is)) b) own in
      let (i, r, from, at, within) = later q (n, t, refl, subst (OfThread s q) thread a, on, low) after in
      inr (i, r, omega (arith, from, more_ranges s x y e), at, within)
]
