-- The last section on each lock that was followed.
use Rattle.std.proofs.Common.{◌≡◌, ℕ, ◌<◌, ◌≤◌, inl, inr, Bool, true, false, cond, ◌==◌, List, [], ◌∷◌, ◌++◌, Option, Some, None, MatchOption, refl, sym, ap, subst, ◌∙◌, arith}
use Rattle.std.proofs.lemmas.List.Elements.{Contains-append_left, Contains-push, Contains-push_cases}
use Rattle.std.proofs.lemmas.Bool.{eqb-true, eq-eqb, false≢true, cases_lt}
use Rattle.std.proofs.lemmas.Option.{none-some, same_Some}
use Rattle.std.specs.List.{Contains}
use Rattle.std.specs.Option.{option_and_then}
use Rattle.trace_model.specs.declared.refutations.Reason.{Reason}
use Rattle.trace_model.specs.declared.traces.event.Event.{Event}
use Rattle.trace_model.specs.declared.traces.event.Op.{Op}
use Rattle.trace_model.specs.declared.traces.event.Op.TheVariants.{Acquire, Release, Read, Write, Fork, Join}
use Rattle.trace_model.specs.Theory.Trace.{Trace, At, OfThread}
use Rattle.trace_model.specs.Theory.Held.{BeginsOn, begun_lock, begun_of}
use Rattle.trace_model.specs.Theory.Lookups.{release}
use Rattle.trace_model.proofs.Theory.Begun.{begun_so, begun_from}
use Rattle.trace_model.proofs.Theory.Least.{at_thread}
use Rattle.trace_model.proofs.Theory.Lookups.{release_so}
use Rattle.explain.specs.declared.tables.Prefix.{Prefix}
use Rattle.explain.specs.declared.tables.PrefixTable.{PrefixTable}
use Rattle.explain.specs.declared.search.DerivationSearch.{DerivationSearch}
use Rattle.explain.specs.Tables.{prefix_at}
use Rattle.explain.specs.DerivationSearch.{IsUpTo, IsDerived, IsLast, IsIn, IsSearch, Extends, HasLastPlaces}
use Rattle.explain.proofs.Adding.{has_up_to}

-- the entry of a lock
abbrev pub Keeps : Trace → List ℕ → (ℕ → Type 0) → ℕ → Option Prefix → Type 0
Keeps s followed H l o = MatchOption o ((b : ℕ) → Contains followed b → BeginsOn s b l → ⊥) (λ r. IsLast s followed H l r.last)

-- one lock is that of a place
one_lock : (s : Trace) (q l k : ℕ) → begun_lock s q ≡ Some l → BeginsOn s q k → l ≡ k
one_lock s q l k e b = same_Some l k (sym e ∙ begun_from s q k b)

module _ (s : Trace) (followed : List ℕ) (H K : ℕ → Type 0) (more : (p : ℕ) → H p → K p) where
  pub kept_entry : (l : ℕ) (o : Option Prefix) → Keeps s followed H l o → Keeps s followed K l o
  kept_entry l None h = h
  kept_entry l (Some a) (c, b, f) = (c, b, λ d k m. let r = f d k m in (r.0, λ less x e. more x (r.1 less x e)))

  pub other_entry : (q l : ℕ) → (BeginsOn s q l → ⊥) → (o : Option Prefix) → Keeps s followed H l o → Keeps s (followed ++ q ∷ []) K l o
  other_entry q l none None h = λ b c k. elim (Contains-push_cases followed q b c) [ inl a ↦ h b a k | inr a ↦ none (subst (λ x. BeginsOn s x l) (sym a) k) ]
  other_entry q l none (Some a) (c, b, f) = (
    Contains-append_left followed (q ∷ []) a.last c,
    b,
    λ d k m. elim (Contains-push_cases followed q d k) [
      | inl i ↦ let r = f d i m in (r.0, λ less x e. more x (r.1 less x e))
      | inr i ↦ absurd (none (subst (λ x. BeginsOn s x l) (sym i) m))
    ],
  )

  pub first_entry : (q l : ℕ) (reason : Reason) → BeginsOn s q l → Keeps s followed H l None → Keeps s (followed ++ q ∷ []) K l (Some (record { last = q; reason = reason }))
  first_entry q l reason here h = (
    Contains-push followed q,
    here,
    λ d k m. elim (Contains-push_cases followed q d k) [
      | inl i ↦ absurd (h d i m)
      | inr i ↦ (omega arith, λ less. absurd (omega arith))
    ],
  )

  pub earlier_entry : (q l : ℕ) (a : Prefix) → q < a.last → ((r : ℕ) → release s q ≡ Some r → K r) → Keeps s followed H l (Some a) → Keeps s (followed ++ q ∷ []) K l (Some a)
  earlier_entry q l a less ends (c, b, f) = (
    Contains-append_left followed (q ∷ []) a.last c,
    b,
    λ d k m. elim (Contains-push_cases followed q d k) [
      | inl i ↦ let r = f d i m in (r.0, λ under x e. more x (r.1 under x e))
      | inr i ↦ (omega arith, λ under x e. ends x (ap (release s) i ∙ e))
    ],
  )

  pub later_entry : (q l : ℕ) (reason : Reason) (a : Prefix) → a.last ≤ q → BeginsOn s q l → (a.last < q → (r : ℕ) → release s a.last ≡ Some r → K r) → Keeps s followed H l (Some a) →
      Keeps s (followed ++ q ∷ []) K l (Some (record { last = q; reason = reason }))
  later_entry q l reason a low here ends (c, b, f) = (
    Contains-push followed q,
    here,
    λ d k m. elim (Contains-push_cases followed q d k) [
      | inl i ↦
          let r = f d i m in (
            omega (arith, r.0),
            λ under x e. elim (cases_lt d a.last) [
              | inl u ↦ more x (r.1 u x e)
              | inr u ↦ let same : d ≡ a.last = omega (arith, r.0) in ends (omega arith) x (ap (release s) (sym same) ∙ e)
            ],
          )
      | inr i ↦ (omega arith, λ less. absurd (omega arith))
    ],
  )

-- ---- the table of all locks

pub follows_stays : (s : Trace) (followed : List ℕ) (x y : DerivationSearch) → ((p : ℕ) → IsDerived s x p → IsDerived s y p) → y.locks ≡ x.locks →
    HasLastPlaces s followed x → HasLastPlaces s followed y
follows_stays s followed x y more same h l = subst (λ (m : _). Keeps s followed (IsDerived s y) l (prefix_at m l)) (sym same)
    (kept_entry s followed (IsDerived s x) (IsDerived s y) more l (prefix_at x.locks l) (h l))

-- only an acquire begins a section
pub not_begun : (s : Trace) (q : ℕ) (e : Event) → At s q e → ((l : ℕ) → e.op ≡ Acquire l → ⊥) → begun_lock s q ≡ None
not_begun s q e at none = ap (option_and_then (λ x. begun_of s q x.thread x.op)) at ∙ go e.op none
  where
    go : (o : Op) → ((l : ℕ) → o ≡ Acquire l → ⊥) → begun_of s q e.thread o ≡ None
    go (Acquire l) h = absurd (h l refl)
    go (Release l) h = refl
    go (Read v) h = refl
    go (Write v) h = refl
    go (Fork t) h = refl
    go (Join t) h = refl

pub follows_none : (s : Trace) (followed : List ℕ) (x : DerivationSearch) (q : ℕ) → begun_lock s q ≡ None → HasLastPlaces s followed x → HasLastPlaces s (followed ++ q ∷ []) x
follows_none s followed x q none h l =
    other_entry s followed (IsDerived s x) (IsDerived s x) (λ p c. c) q l (λ b. none-some l (sym none ∙ begun_from s q l b)) (prefix_at x.locks l) (h l)

-- an earlier place than the last one
pub follows_earlier : (s : Trace) (followed : List ℕ) (x y : DerivationSearch) (q l : ℕ) (a : Prefix) → begun_lock s q ≡ Some l → prefix_at x.locks l ≡ Some a → q < a.last →
    ((p : ℕ) → IsDerived s x p → IsDerived s y p) → y.locks ≡ x.locks → ((r : ℕ) → release s q ≡ Some r → IsDerived s y r) →
    HasLastPlaces s followed x → HasLastPlaces s (followed ++ q ∷ []) y
follows_earlier s followed x y q l a is last less more same ends h k =
    subst (λ (m : _). Keeps s (followed ++ q ∷ []) (IsDerived s y) k (prefix_at m k)) (sym same) (go (l == k) refl)
  where
    go : (b : Bool) → (l == k) ≡ b → Keeps s (followed ++ q ∷ []) (IsDerived s y) k (prefix_at x.locks k)
    go true e =
        let lock : l ≡ k = eqb-true l k e in
        let here : prefix_at x.locks k ≡ Some a = ap (prefix_at x.locks) (sym lock) ∙ last in
        subst (Keeps s (followed ++ q ∷ []) (IsDerived s y) k) (sym here)
        (earlier_entry s followed (IsDerived s x) (IsDerived s y) more q k a less ends (subst (Keeps s followed (IsDerived s x) k) here (h k)))
    go false e = other_entry s followed (IsDerived s x) (IsDerived s y) more q k (λ b. false≢true (sym e ∙ eq-eqb l k (one_lock s q l k is b))) (prefix_at x.locks k) (h k)

-- the last place so far
pub follows_later : (s : Trace) (followed : List ℕ) (x y : DerivationSearch) (l : ℕ) (here : Prefix) (locks : PrefixTable) → begun_lock s here.last ≡ Some l →
    ((p : ℕ) → IsDerived s x p → IsDerived s y p) → y.locks ≡ x.locks →
    ((k : ℕ) → prefix_at locks k ≡ cond (l == k) (Some here) (prefix_at y.locks k)) →
    ((a : Prefix) → prefix_at x.locks l ≡ Some a → (a.last ≤ here.last) × (a.last < here.last → (r : ℕ) → release s a.last ≡ Some r → IsDerived s y r)) →
    HasLastPlaces s followed x → HasLastPlaces s (followed ++ here.last ∷ []) (record y { locks = locks })
follows_later s followed x y l here locks is more same put ends h k =
    subst (Keeps s (followed ++ here.last ∷ []) (IsDerived s y) k) (sym (put k)) (go (l == k) refl)
  where
    go : (b : Bool) → (l == k) ≡ b → Keeps s (followed ++ here.last ∷ []) (IsDerived s y) k (cond b (Some here) (prefix_at y.locks k))
    go false e = subst (λ (m : _). Keeps s (followed ++ here.last ∷ []) (IsDerived s y) k (prefix_at m k)) (sym same)
        (other_entry s followed (IsDerived s x) (IsDerived s y) more here.last k (λ b. false≢true (sym e ∙ eq-eqb l k (one_lock s here.last l k is b))) (prefix_at x.locks k) (h k))
    go true e = by_last (prefix_at x.locks k) refl
      where
        lock : l ≡ k
        lock = eqb-true l k e

        begins : BeginsOn s here.last k
        begins = subst (BeginsOn s here.last) lock (begun_so s here.last l is)

        by_last : (o : Option Prefix) → prefix_at x.locks k ≡ o → Keeps s (followed ++ here.last ∷ []) (IsDerived s y) k (Some here)
        by_last None f = first_entry s followed (IsDerived s x) (IsDerived s y) more here.last k here.reason begins (subst (Keeps s followed (IsDerived s x) k) f (h k))
        by_last (Some a) f =
            let r = ends a (ap (prefix_at x.locks) lock ∙ f) in
            later_entry s followed (IsDerived s x) (IsDerived s y) more here.last k here.reason a r.0 begins r.1 (subst (Keeps s followed (IsDerived s x) k) f (h k))

-- the release of a section that ends up to a derived place of its thread
pub release_within : (s : Trace) (x : DerivationSearch) (q end r : ℕ) → release s q ≡ Some r → r ≤ end → IsUpTo s q (Some end) → IsDerived s x end → IsDerived s x r
release_within s x q end r ends low (f, u, e, a, b, less) derived =
    let (t, l, begins, least) = release_so s q r ends in
    let thread : t ≡ u = at_thread s q t u (Acquire l, begins.0) a in
    has_up_to s x r end (f, u, e, subst (OfThread s r) thread (Release l, least.1.0), b, omega (arith, low, same_Some end f e)) derived

pub last_is : (s : Trace) (followed : List ℕ) (x : DerivationSearch) (l : ℕ) (a : Prefix) → HasLastPlaces s followed x → prefix_at x.locks l ≡ Some a → IsLast s followed (IsDerived s x) l a.last
last_is s followed x l a h e = subst (Keeps s followed (IsDerived s x) l) e (h l)

-- the table of locks gets a prefix that is derived
pub with_lock : (s : Trace) (places : List ℕ) (x : DerivationSearch) (l : ℕ) (here : Prefix) (locks : PrefixTable) →
    ((k : ℕ) → prefix_at locks k ≡ cond (l == k) (Some here) (prefix_at x.locks k)) → IsIn s places x here → IsSearch s places x → IsSearch s places (record x { locks = locks })
with_lock s places x l here locks put within is = record {
  derives = is.derives;
  indices = is.indices;
  distinct = is.distinct;
  threads = is.threads;
  locks = λ k r e. go k r (l == k) refl (sym (put k) ∙ e);
  ranges = is.ranges;
  all = is.all;
}
  where
    go : (k : ℕ) (r : Prefix) (b : Bool) → (l == k) ≡ b → cond b (Some here) (prefix_at x.locks k) ≡ Some r → IsIn s places x r
    go k r true h e = subst (IsIn s places x) (same_Some here r e) within
    go k r false h e = is.locks k r e

pub extends_by_lock : (s : Trace) (x y : DerivationSearch) (locks : PrefixTable) → Extends s x y → Extends s x (record y { locks = locks })
extends_by_lock s x y locks e = record { entries = e.entries; ranges = e.ranges; has = e.has }
