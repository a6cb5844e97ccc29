-- Entries that a search adds.
use Rattle.std.proofs.Common.{◌≡◌, ℕ, ◌<◌, ◌⊎◌, inl, inr, List, [], ◌∷◌, ◌++◌, append_assoc, append-nil, length, slice_get, Some, Result, Ok, Err, OnOk, refl, sym, ap, subst, ◌∙◌, arith}
use Rattle.std.proofs.lemmas.List.{map-append, length-map}
use Rattle.std.proofs.lemmas.Option.{same_Some, slice_get_within}
use Rattle.std.specs.List.{Contains}
use Rattle.trace_model.specs.declared.refutations.Reason.{Reason}
use Rattle.trace_model.specs.declared.refutations.Reason.TheVariants.{BeforeMember, ThreadOrder, ForkJoin, ReadsFrom, Sections}
use Rattle.trace_model.specs.declared.refutations.Derived.{Derived}
use Rattle.trace_model.specs.Theory.Trace.{Trace, OfThread, EarlierInThread}
use Rattle.trace_model.specs.Theory.Refutation.{Justifies, derived_places, IsDerivation}
use Rattle.trace_model.proofs.Lists.{get-append, get-push, get-push_last}
use Rattle.trace_model.proofs.Theory.Ascending.{place_of, contains_at}
use Rattle.trace_model.proofs.Theory.Derivable.{derived_push, one_more_derived, derivable_within}
use Rattle.trace_model.proofs.Theory.Least.{at_thread}
use Rattle.trace_model.proofs.Theory.Refutation.{entry_of}
use Rattle.explain.specs.declared.tables.Prefix.{Prefix}
use Rattle.explain.specs.declared.search.DerivationSearch.{DerivationSearch}
use Rattle.explain.specs.Tables.{prefix_at}
use Rattle.explain.specs.EntryTable.{AreIndices}
use Rattle.explain.specs.DerivationSearch.{derived_by, IsUpTo, IsDerived, Covers, IsIn, IsSearch, Extends, AddsEntry, CoversAll}

pub extends_refl : (s : Trace) (x : DerivationSearch) → Extends s x x
extends_refl s x = record { entries = ([], sym (append-nil x.entries.items)); ranges = λ i r e. e; has = λ p h. h }

pub extends_trans : (s : Trace) (x y z : DerivationSearch) → Extends s x y → Extends s y z → Extends s x z
extends_trans s x y z e f = record {
  entries = (e.entries.0 ++ f.entries.0, f.entries.1 ∙ ap (λ xs. xs ++ f.entries.0) e.entries.1 ∙ append_assoc x.entries.items e.entries.0 f.entries.0);
  ranges = λ i r h. f.ranges i r (e.ranges i r h);
  has = λ p h. f.has p (e.has p h);
}

-- the entries stay
pub stays : (s : Trace) (x y : DerivationSearch) → Extends s x y → (p : ℕ) → Contains (derived_by x) p → Contains (derived_by y) p
stays s x y e p c =
    let (more, same) = e.entries in
    let split : derived_by y ≡ derived_by x ++ derived_places more = ap derived_places same ∙ map-append (λ (d : Derived). d.place) x.entries.items more in
    let (k, prefix_at) = place_of (derived_by x) p c in
    contains_at (derived_by y) p k (subst (λ xs. slice_get xs k ≡ Some p) (sym split)
    (get-append (derived_by x) (derived_places more) k (slice_get_within (derived_by x) k p prefix_at) ∙ prefix_at))

-- a reason holds after more places
pub justified_more : (s : Trace) (places xs ys : List ℕ) → ((q : ℕ) → Contains xs q → Contains ys q) → (r : Reason) (p : ℕ) →
    Justifies s places xs r p → Justifies s places ys r p
justified_more s places xs ys f (BeforeMember q) p (c, e) = (c, e)
justified_more s places xs ys f (ThreadOrder q) p (c, e) = (f q c, e)
justified_more s places xs ys f (ForkJoin q) p (c, e) = (f q c, e)
justified_more s places xs ys f (ReadsFrom q) p (c, e) = (f q c, e)
justified_more s places xs ys f (Sections a b) p (c, d, l, m, e) = (f a c, f b d, l, m, e)

pub covers_more : (s : Trace) (places : List ℕ) (x y : DerivationSearch) → Extends s x y → (r : Prefix) → Covers s places x r → Covers s places y r
covers_more s places x y e r h p up = elim (h p up) [
  | inl c ↦ inl (stays s x y e p c)
  | inr j ↦ inr (justified_more s places (derived_by x) (derived_by y) (stays s x y e) r.reason p j)
]

pub in_more : (s : Trace) (places : List ℕ) (x y : DerivationSearch) → Extends s x y → (r : Prefix) → IsIn s places x r → IsIn s places y r
in_more s places x y e r (h, c) = (e.has r.last h, covers_more s places x y e r c)

-- the last place of a prefix is up to it
pub last_up_to : (s : Trace) (x : DerivationSearch) (p : ℕ) → IsDerived s x p → IsUpTo s p (Some p)
last_up_to s x p (r, (t, e, o, l)) = (p, t, refl, o, o, omega arith)

-- each place with an entry is in the trace
pub derived_within : (s : Trace) (places : List ℕ) (x : DerivationSearch) → IsSearch s places x → (p : ℕ) → Contains (derived_by x) p → p < length s
derived_within s places x is p c =
    let (k, prefix_at) = place_of (derived_by x) p c in
    let (d, here, same) = entry_of x.entries.items k p prefix_at in
    subst (λ q. q < length s) same (derivable_within s places _ d.place d.reason (is.derives k d here))

-- an earlier place of a derived place's thread is derived
pub has_earlier : (s : Trace) (x : DerivationSearch) (p q : ℕ) → EarlierInThread s p q → IsDerived s x q → IsDerived s x p
has_earlier s x p q (u, a, b, less) (r, (t, e, o, l)) = (r, (t, e, subst (OfThread s p) (at_thread s q u t b o) a, omega (arith, less, l)))

pub has_up_to : (s : Trace) (x : DerivationSearch) (p q : ℕ) → IsUpTo s p (Some q) → IsDerived s x q → IsDerived s x p
has_up_to s x p q (f, u, e, a, b, low) (r, (t, is, o, l)) =
    let same : q ≡ f = same_Some q f e in
    (r, (t, is, subst (OfThread s p) (at_thread s q u t (subst (λ z. OfThread s z u) (sym same) b) o) a, omega (arith, low, l, same)))

-- a shorter prefix is covered
pub covers_before : (s : Trace) (places : List ℕ) (x : DerivationSearch) (q : ℕ) (r : Prefix) → IsUpTo s q (Some r.last) → Covers s places x r →
    Covers s places x (record { last = q; reason = r.reason })
covers_before s places x q r (f, t, e, a, b, l) c p (g, u, k, o, h, m) =
    let same : q ≡ g = same_Some q g k in
    let thread : u ≡ t = at_thread s q u t (subst (λ z. OfThread s z u) (sym same) h) a in
    c p (f, t, e, subst (OfThread s p) thread o, b, omega (arith, l, m, same))

-- a place without an entry gets one at the end
module _ (s : Trace) (places : List ℕ) (x y : DerivationSearch) (p : ℕ) (r : Reason)
    (fresh : Contains (derived_by x) p → ⊥)
    (put : AreIndices y.indices (derived_by x ++ p ∷ []))
    (items : y.entries.items ≡ x.entries.items ++ record { place = p; reason = r } ∷ [])
    (is : IsSearch s places x) where
  pushed : derived_by y ≡ derived_by x ++ p ∷ []
  pushed = ap derived_places items ∙ derived_push x.entries.items (record { place = p; reason = r })

  more : y.threads ≡ x.threads → y.ranges ≡ x.ranges → Extends s x y
  more threads ranges = record {
    entries = (record { place = p; reason = r } ∷ [], items);
    ranges = λ i r e. subst (λ (v : _). slice_get v.items i ≡ Some r) (sym ranges) e;
    has = λ q (r, (t, e, o, l)). (r, (t, subst (λ (v : _). prefix_at v t ≡ Some r) (sym threads) e, o, l));
  }

  kept : (k q : ℕ) → slice_get (derived_by x) k ≡ Some q → slice_get (derived_by y) k ≡ Some q
  kept k q prefix_at = subst (λ xs. slice_get xs k ≡ Some q) (sym pushed) (get-append (derived_by x) (p ∷ []) k (slice_get_within (derived_by x) k q prefix_at) ∙ prefix_at)

  last : slice_get (derived_by y) (length x.entries.items) ≡ Some p
  last = subst (λ xs. slice_get xs (length x.entries.items) ≡ Some p) (sym pushed)
      (subst (λ n. slice_get (derived_by x ++ p ∷ []) n ≡ Some p) (length-map x.entries.items (λ (d : Derived). d.place)) (get-push_last (derived_by x) p))

  old_or_new : (k q : ℕ) → slice_get (derived_by y) k ≡ Some q → (slice_get (derived_by x) k ≡ Some q) ⊎ ((k ≡ length (derived_by x)) × (p ≡ q))
  old_or_new k q prefix_at = get-push (derived_by x) p k q (subst (λ xs. slice_get xs k ≡ Some q) pushed prefix_at)

  pub added : y.threads ≡ x.threads → y.ranges ≡ x.ranges → y.locks ≡ x.locks → Justifies s places (derived_by x) r p → AddsEntry s places x p y
  added threads ranges locks j = (
    record {
      derives = subst (IsDerivation s places) (sym items) (one_more_derived s places x.entries.items (record { place = p; reason = r }) is.derives j);
      indices = subst (AreIndices y.indices) (sym pushed) put;
      distinct = λ i k q a b. elim (old_or_new i q a) [
        | inl c ↦ elim (old_or_new k q b) [
          | inl d ↦ is.distinct i k q c d
          | inr d ↦ absurd (fresh (contains_at (derived_by x) p i (c ∙ ap Some (sym d.1))))
        ]
        | inr c ↦ elim (old_or_new k q b) [
          | inl d ↦ absurd (fresh (contains_at (derived_by x) p k (d ∙ ap Some (sym c.1))))
          | inr d ↦ c.0 ∙ sym d.0
        ]
      ];
      threads = λ t q e.
          let (o, c) = is.threads t q (subst (λ (v : _). prefix_at v t ≡ Some q) threads e) in
          (o, covers_more s places x y (more threads ranges) q c);
      locks = λ l q e. in_more s places x y (more threads ranges) q (is.locks l q (subst (λ (v : _). prefix_at v l ≡ Some q) locks e));
      ranges = λ i q e. in_more s places x y (more threads ranges) q.prefix (is.ranges i q (subst (λ (v : _). slice_get v.items i ≡ Some q) ranges e));
      all = λ q (z, (t, e, o, l)).
          let (i, range, there, within) = is.all q (z, (t, subst (λ (v : _). prefix_at v t ≡ Some z) threads e, o, l)) in
          (i, range, subst (λ (v : _). slice_get v.items i ≡ Some range) (sym ranges) there, within);
    },
    more threads ranges,
    contains_at (derived_by y) p (length x.entries.items) last,
  )

-- ---- other forks

pub with_forks : (s : Trace) (places : List ℕ) (x : DerivationSearch) (forks : List (ℕ × ℕ)) → IsSearch s places x → IsSearch s places (record x { forks = forks })
with_forks s places x forks is = record {
  derives = is.derives;
  indices = is.indices;
  distinct = is.distinct;
  threads = is.threads;
  locks = is.locks;
  ranges = is.ranges;
  all = is.all;
}

pub extends_forks : (s : Trace) (x y : DerivationSearch) (forks : List (ℕ × ℕ)) → Extends s (record x { forks = forks }) y → Extends s x y
extends_forks s x y forks e = record { entries = e.entries; ranges = e.ranges; has = e.has }

-- ---- one call after another

pub covers_both : (s : Trace) (places : List ℕ) (x y z : DerivationSearch) (P Q : ℕ → Type 0) → CoversAll s places x P y → CoversAll s places y Q z →
    CoversAll s places x (λ p. P p ⊎ Q p) z
covers_both s places x y z P Q (a, e, f) (b, g, h) = (b, extends_trans s x y z e g, λ p. both p)
  where
    both : (p : ℕ) → P p ⊎ Q p → IsDerived s z p
    both p (inl k) = g.has p (f p k)
    both p (inr k) = h p k

pub covers_fewer : (s : Trace) (places : List ℕ) (x y : DerivationSearch) (P Q : ℕ → Type 0) → ((p : ℕ) → Q p → P p) → CoversAll s places x P y → CoversAll s places x Q y
covers_fewer s places x y P Q f (a, e, h) = (a, e, λ p k. h p (f p k))

-- a fact of an `Ok` value implies another
pub on_ok_then : {E A B : Type 0} (r : Result Unit E) → OnOk r A → (A → B) → OnOk r B
on_ok_then (Ok u) a f = f a
on_ok_then (Err e) a f = tt
