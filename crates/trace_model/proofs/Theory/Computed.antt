-- Tests that compute: well formed, closed, reached. They decide small traces.
use Rattle.std.proofs.Common.{◌≡◌, ℕ, zero, suc, ◌<◌, inl, inr, Bool, true, false, not, ltb, ◌==◌, ◌&&◌, ◌||◌, List, [], ◌∷◌, length, slice_get, Option, Some, None, refl, sym, ap, subst, ◌∙◌, arith}
use Rattle.std.proofs.lemmas.Bool.{eq-eqb, false≢true, or_cases, or_left, or_right, and_parts, and_from, cases_lt, lt-ltb, ltb-true, not_from_true}
use Rattle.std.proofs.lemmas.Option.{none-some, same_Some, slice_get_within}
use Rattle.std.specs.Option.{option_map_or}
use Rattle.std.proofs.Common.{take, is_none}
use Rattle.std.specs.List.{list_all}
use Rattle.trace_model.specs.declared.traces.event.Event.{Event}
use Rattle.trace_model.specs.declared.traces.event.Op.{Op}
use Rattle.trace_model.specs.declared.traces.event.Op.TheVariants.{Fork, Join}
use Rattle.trace_model.specs.Theory.Trace.{Trace, Does, OfThread, EarlierInThread, op_eq, does}
use Rattle.trace_model.specs.declared.refusal.Refusal.{Refusal}
use Rattle.trace_model.specs.declared.limits.TheConstants.{MAX_EVENTS}
use Rattle.trace_model.specs.Theory.Lawful.{refusal_of, IsWellFormed}
use Rattle.trace_model.specs.Theory.Lookups.{writer, release}
use Rattle.trace_model.specs.Theory.Reordering.{ForkOrJoin, AreReached}
use Rattle.trace_model.specs.Theory.Closure.{Places, IsClosed}
use Rattle.trace_model.proofs.Theory.Places.{op_eq_itself}
use Rattle.trace_model.proofs.Theory.Ascending.{place_of, listed, listed_so}
use Rattle.trace_model.proofs.Theory.Stability.{reached_from}

abbrev pub all_below : ℕ → (ℕ → Bool) → Bool
all_below zero test = true
all_below (suc n) test = test n && all_below n test

pub all_below_at : (n : ℕ) (test : ℕ → Bool) (p : ℕ) → all_below n test ≡ true → p < n → test p ≡ true
all_below_at zero test p h l = absurd (omega arith)
all_below_at (suc n) test p h l =
    let k = and_parts (test n) (all_below n test) h in
    let more = all_below_at n test p k.1 in
    elim (cases_lt p n) [
      | inl a ↦ more a
      | inr a ↦ let same : n ≡ p = omega arith in subst (λ x. test x ≡ true) same k.0
    ]

pub implied : (a b : Bool) → (not a || b) ≡ true → a ≡ true → b ≡ true
implied a b h k = elim (or_cases (not a) b h) [ inl x ↦ absurd (false≢true (sym (not_from_true a k) ∙ x)) | inr y ↦ y ]

abbrev pub of_thread : Trace → ℕ → ℕ → Bool
of_thread s t p = option_map_or (λ e. e.thread == t) (slice_get s p) false

-- by thread, fork or join the event at q needs p
abbrev pub needs_by : Trace → ℕ → ℕ → Event → Bool
needs_by s p q e =
    (ltb p q && of_thread s e.thread p) || (does s (Fork e.thread) p || joined e.op)
  where
    joined : Op → Bool
    joined (Join c) = does s (Fork c) p || of_thread s c p
    joined _ = false

abbrev pub needs : Trace → ℕ → ℕ → Bool
needs s p q = option_map_or (needs_by s p q) (slice_get s q) false

abbrev pub same_section_lock : Option Event → Option Event → Bool
same_section_lock (Some x) (Some y) = op_eq x.op y.op
same_section_lock _ _ = false

abbrev pub closed_test : Trace → Places → Bool
closed_test s set =
    let n = length s in
    (all_below n (λ q. all_below n (λ p. not (set q && needs s p q) || set p))
    && all_below n (λ q. not (set q) || option_map_or set (writer s q) true))
    && all_below n (λ q. all_below n (λ p. not ((set p && set q) && (ltb p q && same_section_lock (slice_get s p) (slice_get s q))) || option_map_or set (release s p) true))

pub of_thread_from : (s : Trace) (t p : ℕ) → OfThread s p t → of_thread s t p ≡ true
of_thread_from s t p (o, h) = rw h (eq-eqb t t refl)

pub does_from' : (s : Trace) (o : Op) (p : ℕ) → Does s p o → does s o p ≡ true
does_from' s o p (t, h) = rw h (op_eq_itself o)

pub needs_earlier : (s : Trace) (p q : ℕ) → EarlierInThread s p q → needs s p q ≡ true
needs_earlier s p q (t, a, (o, h), l) = rw h (or_left (ltb p q && of_thread s t p) _ (and_from (ltb p q) (of_thread s t p) (lt-ltb p q l) (of_thread_from s t p a)))

pub needs_fork_join : (s : Trace) (p q : ℕ) → ForkOrJoin s p q → needs s p q ≡ true
needs_fork_join s p q (inl (t, (o, h), f)) =
    rw h (or_right (ltb p q && of_thread s t p) _ (or_left (does s (Fork t) p) _ (does_from' s (Fork t) p f)))
needs_fork_join s p q (inr (c, (t, h), inl f)) =
    rw h (or_right (ltb p q && of_thread s t p) _ (or_right (does s (Fork t) p) _ (or_left (does s (Fork c) p) (of_thread s c p) (does_from' s (Fork c) p f))))
needs_fork_join s p q (inr (c, (t, h), inr o)) =
    rw h (or_right (ltb p q && of_thread s t p) _ (or_right (does s (Fork t) p) _ (or_right (does s (Fork c) p) (of_thread s c p) (of_thread_from s c p o))))

pub closed_if : (s : Trace) (set : Places) → closed_test s set ≡ true → ((q : ℕ) → set q ≡ true → q < length s) → IsClosed s set
closed_if s set h low =
    let n = length s in
    let a = and_parts (all_below n (λ q. all_below n (λ p. not (set q && needs s p q) || set p)) && all_below n (λ q. not (set q) || option_map_or set (writer s q) true)) _ h in
    let b = and_parts (all_below n (λ q. all_below n (λ p. not (set q && needs s p q) || set p))) _ a.0 in
    let needed : (p q : ℕ) → p < n → set q ≡ true → needs s p q ≡ true → set p ≡ true = λ p q l k e.
    implied (set q && needs s p q) (set p)
    (all_below_at n (λ p. not (set q && needs s p q) || set p) p
    (all_below_at n (λ q. all_below n (λ p. not (set q && needs s p q) || set p)) q b.0 (low q k)) l)
    (and_from (set q) (needs s p q) k e) in
    record {
      threads = λ p q k e. needed p q (omega (arith, e.3, low q k)) k (needs_earlier s p q e);
      forks_joins = λ p q k e. needed p q (place_low p q e) k (needs_fork_join s p q e);
      writers = λ w q k e. ap (λ o. option_map_or set o true) (sym e) ∙
          implied (set q) (option_map_or set (writer s q) true) (all_below_at n (λ q. not (set q) || option_map_or set (writer s q) true) q b.1 (low q k)) k;
      sections = λ p q r l below x y i j e. ap (λ o. option_map_or set o true) (sym e) ∙
          implied ((set p && set q) && (ltb p q && same_section_lock (slice_get s p) (slice_get s q))) (option_map_or set (release s p) true)
          (all_below_at n (λ p. not ((set p && set q) && (ltb p q && same_section_lock (slice_get s p) (slice_get s q))) || option_map_or set (release s p) true) p
          (all_below_at n (λ q. all_below n (λ p. not ((set p && set q) && (ltb p q && same_section_lock (slice_get s p) (slice_get s q))) || option_map_or set (release s p) true)) q a.1 (low q j)) (low p i))
          (and_from (set p && set q) _ (and_from (set p) (set q) i j) (and_from (ltb p q) _ (lt-ltb p q below) (rw (x.1.0, y.1.0) (eq-eqb l l refl))));
    }
  where
    place_low : (p q : ℕ) → ForkOrJoin s p q → p < length s
    place_low p q (inl (t, o, f)) = slice_get_within s p _ f.1
    place_low p q (inr (c, j, inl f)) = slice_get_within s p _ f.1
    place_low p q (inr (c, j, inr o)) = slice_get_within s p _ o.1

abbrev pub lawful_at : Trace → ℕ → Bool
lawful_at s p = option_map_or (λ e. is_none (refusal_of MAX_EVENTS (take p s) e)) (slice_get s p) true

abbrev pub earlier_at : Trace → ℕ → ℕ → Bool
earlier_at s q p = option_map_or (λ e. ltb q p && of_thread s e.thread q) (slice_get s p) false

-- the trace is well formed, and the list is closed, holds the predecessors of the places, and none
-- of them
abbrev pub reached_test : Trace → List ℕ → List ℕ → Bool
reached_test s places witness =
    let set = listed witness in
    let n = length s in
    ((all_below n (lawful_at s) && closed_test s set) && list_all (λ q. ltb q n) witness)
    && (list_all (λ p. all_below n (λ q. not (earlier_at s q p) || set q)) places && list_all (λ p. not (set p)) places)

pub each_passes : (test : ℕ → Bool) (xs : List ℕ) (k x : ℕ) → list_all test xs ≡ true → slice_get xs k ≡ Some x → test x ≡ true
each_passes test [] k x h e = absurd (none-some x e)
each_passes test (y ∷ ys) zero x h e = subst (λ z. test z ≡ true) (same_Some y x e) (and_parts (test y) (list_all test ys) h).0
each_passes test (y ∷ ys) (suc k) x h e = each_passes test ys k x (and_parts (test y) (list_all test ys) h).1 e

pub none_if : (o : Option Refusal) → is_none o ≡ true → o ≡ None
none_if None h = refl
none_if (Some r) h = absurd (false≢true h)

pub well_formed_if : (s : Trace) → all_below (length s) (lawful_at s) ≡ true → IsWellFormed s
well_formed_if s h p e at =
    let k = all_below_at (length s) (lawful_at s) p h (slice_get_within s p e at) in
    none_if (refusal_of MAX_EVENTS (take p s) e) (ap (λ o. option_map_or (λ e. is_none (refusal_of MAX_EVENTS (take p s) e)) o true) (sym at) ∙ k)

pub earlier_from : (s : Trace) (q p : ℕ) → EarlierInThread s q p → earlier_at s q p ≡ true
earlier_from s q p (t, a, (o, h), l) = rw h (and_from (ltb q p) (of_thread s t q) (lt-ltb q p l) (of_thread_from s t q a))

pub reached_if : (s : Trace) (places witness : List ℕ) → reached_test s places witness ≡ true → AreReached s places
reached_if s places witness h =
    let n = length s in
    let a = and_parts ((all_below n (lawful_at s) && closed_test s (listed witness)) && list_all (λ q. ltb q n) witness) _ h in
    let b = and_parts (all_below n (lawful_at s) && closed_test s (listed witness)) _ a.0 in
    let c = and_parts (all_below n (lawful_at s)) _ b.0 in
    let d = and_parts (list_all (λ p. all_below n (λ q. not (earlier_at s q p) || listed witness q)) places) _ a.1 in
    let low : (q : ℕ) → listed witness q ≡ true → q < n = λ q k.
    let r = listed_so witness q k in ltb-true q n (each_passes (λ q. ltb q n) witness r.0 q b.1 r.1) in
    reached_from s (well_formed_if s c.0) places (listed witness) (closed_if s (listed witness) c.1 low)
    (λ p q k e. let r = place_of places p k in
    implied (earlier_at s q p) (listed witness q)
    (all_below_at n (λ q. not (earlier_at s q p) || listed witness q) q
    (each_passes (λ p. all_below n (λ q. not (earlier_at s q p) || listed witness q)) places r.0 p d.0 r.1)
    (slice_get_within s q _ e.1.1))
    (earlier_from s q p e))
    (λ p k m. let r = place_of places p k in
    false≢true (sym (not_from_true (listed witness p) m) ∙ each_passes (λ p. not (listed witness p)) places r.0 p d.1 r.1))
