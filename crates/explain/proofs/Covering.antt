-- Prefixes that a search adds.
use Rattle.std.proofs.Common.{◌≡◌, ℕ, ◌<◌, ◌≤◌, ◌⊎◌, inl, inr, Bool, true, false, cond, ◌==◌, List, [], ◌∷◌, ◌++◌, append-nil, length, slice_get, Option, Some, None, refl, sym, ap, subst, ◌∙◌, arith}
use Rattle.std.proofs.lemmas.Bool.{eqb-true, eq-eqb, cases_lt}
use Rattle.std.proofs.lemmas.Option.{none-some, same_Some, slice_get_within}
use Rattle.std.specs.List.{Contains}
use Rattle.std.specs.Option.{option_map}
use Rattle.trace_model.specs.declared.refutations.Reason.{Reason}
use Rattle.trace_model.specs.declared.refutations.Reason.TheVariants.{ThreadOrder}
use Rattle.trace_model.specs.Theory.Trace.{Trace, OfThread}
use Rattle.trace_model.specs.Theory.Refutation.{Justifies}
use Rattle.trace_model.proofs.Lists.{at_index, get-append, get-push, get-push_last}
use Rattle.trace_model.proofs.Theory.Least.{at_thread}
use Rattle.explain.specs.declared.tables.Prefix.{Prefix}
use Rattle.explain.specs.declared.search.Range.{Range}
use Rattle.explain.specs.declared.search.DerivationSearch.{DerivationSearch}
use Rattle.explain.specs.Tables.{prefix_at}
use Rattle.explain.specs.DerivationSearch.{derived_by, IsUpTo, IsDerived, Covers, IsIn, InRange, IsSearch, Extends, CoversAll}
use Rattle.explain.proofs.Adding.{derived_within}

-- the places up to a place with an entry
pub up_to_entry : (s : Trace) (places : List ℕ) (x : DerivationSearch) (q : ℕ) → Contains (derived_by x) q → (p : ℕ) → IsUpTo s p (Some q) →
    Contains (derived_by x) p ⊎ Justifies s places (derived_by x) (ThreadOrder q) p
up_to_entry s places x q c p (f, t, e, a, b, l) =
    let same : q ≡ f = same_Some q f e in
    elim (cases_lt p q) [
      | inl less ↦ inr (c, (t, a, subst (λ z. OfThread s z t) (sym same) b, less))
      | inr past ↦ let here : q ≡ p = omega (arith, past, l, same) in inl (subst (Contains (derived_by x)) here c)
    ]

-- a place with an entry is in a thread
pub entry_up_to : (s : Trace) (places : List ℕ) (x : DerivationSearch) → IsSearch s places x → (p : ℕ) → Contains (derived_by x) p → IsUpTo s p (Some p)
entry_up_to s places x is p c =
    let (e, here) = at_index s p (derived_within s places x is p c) in
    (p, e.thread, refl, (e.op, here), (e.op, here), omega arith)

-- the thread gets a longer prefix, and the places that it has more are a range
module _ (s : Trace) (places : List ℕ) (x z : DerivationSearch) (t place : ℕ) (reason : Reason) (after : Option ℕ) (slice : ℕ)
    (here : OfThread s place t)
    (known : after ≡ option_map (λ (k : Prefix). k.last) (prefix_at x.threads t))
    (past : (a : ℕ) → after ≡ Some a → a < place)
    (put : (u : ℕ) → prefix_at z.threads u ≡ cond (t == u) (Some (record { last = place; reason = reason })) (prefix_at x.threads u))
    (items : z.ranges.items ≡ x.ranges.items ++ record { prefix = record { last = place; reason = reason }; after = after; slice = slice } ∷ [])
    (is : IsSearch s places x)
    (covers : (p : ℕ) → IsUpTo s p (Some place) → Contains (derived_by x) p ⊎ Justifies s places (derived_by x) reason p) where
  abbrev prefix : Prefix
  prefix = record { last = place; reason = reason }

  abbrev range : Range
  range = record { prefix = record { last = place; reason = reason }; after = after; slice = slice }

  abbrev y : DerivationSearch
  y = record x { threads = z.threads; ranges = z.ranges }

  known_last : (k : Prefix) → prefix_at x.threads t ≡ Some k → after ≡ Some k.last
  known_last k e = known ∙ ap (option_map (λ (k : Prefix). k.last)) e

  has_new : (p : ℕ) → OfThread s p t → p ≤ place → IsDerived s y p
  has_new p o l = (prefix, (t, put t ∙ ap (λ b. cond b (Some prefix) (prefix_at x.threads t)) (eq-eqb t t refl), o, l))

  keeps : (p : ℕ) → IsDerived s x p → IsDerived s y p
  keeps p (r, (u, e, o, l)) = go (t == u) refl
    where
      go : (b : Bool) → (t == u) ≡ b → IsDerived s y p
      go true k =
          let same : t ≡ u = eqb-true t u k in
          let less : r.last < place = past r.last (known_last r (ap (prefix_at x.threads) same ∙ e)) in
          has_new p (subst (OfThread s p) (sym same) o) (omega (arith, l, less))
      go false k = (r, (u, put u ∙ ap (λ b. cond b (Some prefix) (prefix_at x.threads u)) k ∙ e, o, l))

  cases_at : (u : ℕ) (r : Prefix) → prefix_at z.threads u ≡ Some r → ((t ≡ u) × (prefix ≡ r)) ⊎ (prefix_at x.threads u ≡ Some r)
  cases_at u r e = go (t == u) refl
    where
      go : (b : Bool) → (t == u) ≡ b → ((t ≡ u) × (prefix ≡ r)) ⊎ (prefix_at x.threads u ≡ Some r)
      go true k = inl (eqb-true t u k, same_Some prefix r (sym (put u ∙ ap (λ b. cond b (Some prefix) (prefix_at x.threads u)) k) ∙ e))
      go false k = inr (sym (put u ∙ ap (λ b. cond b (Some prefix) (prefix_at x.threads u)) k) ∙ e)

  kept_range : (i : ℕ) (r : Range) → slice_get x.ranges.items i ≡ Some r → slice_get z.ranges.items i ≡ Some r
  kept_range i r e = subst (λ rs. slice_get rs i ≡ Some r) (sym items) (get-append x.ranges.items (range ∷ []) i (slice_get_within x.ranges.items i r e) ∙ e)

  more : Extends s x y
  more = record { entries = ([], sym (append-nil x.entries.items)); ranges = kept_range; has = keeps }

  abbrev InSome : ℕ → Type 0
  InSome p = (i : ℕ) × (r : Range) × (slice_get z.ranges.items i ≡ Some r) × InRange s r p

  in_new : (p : ℕ) → OfThread s p t → p ≤ place → ((a : ℕ) → after ≡ Some a → a < p) → InSome p
  in_new p o l from = (
    length x.ranges.items,
    range,
    subst (λ rs. slice_get rs (length x.ranges.items) ≡ Some range) (sym items) (get-push_last x.ranges.items range),
    ((place, t, refl, o, here, l), from),
  )

  in_old : (p : ℕ) → IsDerived s x p → InSome p
  in_old p h = let (i, r, e, within) = is.all p h in (i, r, kept_range i r e, within)

  in_thread : (p : ℕ) → OfThread s p t → p ≤ place → (o : Option Prefix) → prefix_at x.threads t ≡ o → InSome p
  in_thread p o l None e = in_new p o l (λ a k. absurd (none-some a (sym (known ∙ ap (option_map (λ (k : Prefix). k.last)) e) ∙ k)))
  in_thread p o l (Some k) e = elim (cases_lt k.last p) [
    | inl less ↦ in_new p o l (λ a f. omega (arith, less, same_Some k.last a (sym (known_last k e) ∙ f)))
    | inr low ↦ in_old p (k, (t, e, o, low))
  ]

  all : (p : ℕ) → IsDerived s y p → InSome p
  all p (r, (u, e, o, l)) = elim (cases_at u r e) [
    | inl (a, b) ↦ in_thread p (subst (OfThread s p) (sym a) o) (omega (arith, l, ap (λ (k : Prefix). k.last) b)) (prefix_at x.threads t) refl
    | inr a ↦ in_old p (r, (u, a, o, l))
  ]

  search : IsSearch s places y
  search = record {
    derives = is.derives;
    indices = is.indices;
    distinct = is.distinct;
    threads = λ u r e. elim (cases_at u r e) [
      | inl (a, b) ↦ subst (λ (k : Prefix). OfThread s k.last u × Covers s places y k) b (subst (OfThread s place) a here, covers)
      | inr a ↦ is.threads u r a
    ];
    locks = λ l r e. let (h, c) = is.locks l r e in (keeps r.last h, c);
    ranges = λ i r e. elim (get-push x.ranges.items range i r (subst (λ rs. slice_get rs i ≡ Some r) items e)) [
      | inl a ↦ let (h, c) = is.ranges i r a in (keeps r.prefix.last h, c)
      | inr a ↦ subst (λ (k : Range). IsIn s places y k.prefix) a.1 (has_new place here (omega arith), covers)
    ];
    all = all;
  }

  pub covered : (last : Option ℕ) → last ≡ Some place → CoversAll s places x (λ p. IsUpTo s p last) (record x { threads = z.threads; ranges = z.ranges })
  covered last e = (
    search,
    more,
    λ p (f, u, k, o, h, l).
        let same : place ≡ f = same_Some place f (sym e ∙ k) in
        let thread : u ≡ t = at_thread s place u t (subst (λ q. OfThread s q u) (sym same) h) here in
        has_new p (subst (OfThread s p) thread o) (omega (arith, l, same)),
  )
