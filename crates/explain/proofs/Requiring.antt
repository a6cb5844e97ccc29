-- The places that a derived place requires.
use Rattle.std.proofs.Common.{◌≡◌, ℕ, suc, ◌+◌, ◌⊎◌, inl, inr, List, take, slice_get, Option, Some, None, MatchOption, refl, sym, ap, subst, ◌∙◌, arith}
use Rattle.std.proofs.lemmas.List.Elements.{Contains-push_cases}
use Rattle.std.proofs.lemmas.Bool.{cases_lt}
use Rattle.std.proofs.lemmas.Option.{none-some, same_Some}
use Rattle.std.specs.Option.{option_and_then}
use Rattle.std.specs.List.{Contains}
use Rattle.trace_model.specs.declared.traces.event.Event.{Event}
use Rattle.trace_model.specs.declared.traces.event.Op.TheVariants.{Fork, Join}
use Rattle.trace_model.specs.Theory.Trace.{Trace, At, event, Does, OfThread, EarlierInThread, last_place}
use Rattle.trace_model.proofs.Lists.{take_next}
use Rattle.trace_model.proofs.Theory.Least.{at_thread}
use Rattle.trace_index.specs.Numbers.{of_thread, thread_before}
use Rattle.fronts.specs.Threads.{IsLastOfThread}
use Rattle.explain.specs.DerivationSearch.{IsUpTo, IsJoined, IsBefore, IsBeforeSome}
use Rattle.explain.proofs.Walking.{before_some, before_none}

-- the places up to the previous one are those earlier in the thread
pub up_to_earlier : (s : Trace) (q p : ℕ) → IsUpTo s p (thread_before s q) → EarlierInThread s p q
up_to_earlier s q p (f, t, e, a, b, l) = go (slice_get s q) refl
  where
    go : (o : Option Event) → slice_get s q ≡ o → EarlierInThread s p q
    go None k = absurd (none-some f (sym (ap (option_and_then (λ x. last_place (of_thread s x.thread) q)) k) ∙ e))
    go (Some x) k =
        let here : OfThread s q x.thread = (x.op, k) in
        let is = before_some s x.thread q f here e in
        (t, a, subst (OfThread s q) (at_thread s f x.thread t is.0 b) here, omega (arith, l, is.1))

pub earlier_up_to : (s : Trace) (q p : ℕ) → EarlierInThread s p q → IsUpTo s p (thread_before s q)
earlier_up_to s q p (t, a, b, l) = go (thread_before s q) refl
  where
    go : (o : Option ℕ) → thread_before s q ≡ o → IsUpTo s p (thread_before s q)
    go None e = absurd (before_none s t q b e p l a)
    go (Some n) e =
        let is = before_some s t q n b e in
        (n, t, e, a, is.0, elim (cases_lt n p) [ inl m ↦ absurd (is.2 p m l a) | inr m ↦ m ])

-- the places up to the last one of a thread are those of the thread
pub up_to_of_thread : (s : Trace) (c : ℕ) (last : Option ℕ) → MatchOption last ((p : ℕ) → OfThread s p c → ⊥) (IsLastOfThread s c) → (p : ℕ) → IsUpTo s p last → OfThread s p c
up_to_of_thread s c None h p (f, t, e, a, b, l) = absurd (none-some f e)
up_to_of_thread s c (Some q) (o, most) p (f, t, e, a, b, l) =
    subst (OfThread s p) (at_thread s f t c b (subst (λ x. OfThread s x c) (same_Some q f e) o)) a

pub of_thread_up_to : (s : Trace) (c : ℕ) (last : Option ℕ) → MatchOption last ((p : ℕ) → OfThread s p c → ⊥) (IsLastOfThread s c) → (p : ℕ) → OfThread s p c → IsUpTo s p last
of_thread_up_to s c None h p o = absurd (h p o)
of_thread_up_to s c (Some q) (is, most) p o = (q, c, refl, o, is, most p o)

-- the operation at a place with this event
pub joins_one : (s : Trace) (q c d : ℕ) (e : Event) → At s q e → e.op ≡ Join c → Does s q (Join d) → c ≡ d
joins_one s q c d e at is (t, h) =
    let same : Join c ≡ Join d = sym is ∙ ap (λ (x : Event). x.op) (same_Some e (event t (Join d)) (sym at ∙ h)) in cc

pub does_join : (s : Trace) (q c : ℕ) (e : Event) → At s q e → e.op ≡ Join c → Does s q (Join c)
does_join s q c e at is = (e.thread, at ∙ ap (λ o. Some (event e.thread o)) is)

pub does_fork : (s : Trace) (q c : ℕ) (e : Event) → At s q e → e.op ≡ Fork c → Does s q (Fork c)
does_fork s q c e at is = (e.thread, at ∙ ap (λ o. Some (event e.thread o)) is)

pub joined_cases : (s : Trace) (q c : ℕ) (e : Event) (fork last : Option ℕ) → At s q e → e.op ≡ Join c →
    ((p : ℕ) → Does s p (Fork c) → fork ≡ Some p) → MatchOption last ((p : ℕ) → OfThread s p c → ⊥) (IsLastOfThread s c) →
    (p : ℕ) → IsJoined s q p → (fork ≡ Some p) ⊎ IsUpTo s p last
joined_cases s q c e fork last at is f m p (d, j, inl k) = inl (f p (subst (λ x. Does s p (Fork x)) (sym (joins_one s q c d e at is j)) k))
joined_cases s q c e fork last at is f m p (d, j, inr o) = inr (of_thread_up_to s c last m p (subst (OfThread s p) (sym (joins_one s q c d e at is j)) o))

pub before_more : (s : Trace) (places : List ℕ) (k q p : ℕ) → slice_get places k ≡ Some q → IsBefore s (take (k + 1) places) p →
    IsBefore s (take k places) p ⊎ IsBeforeSome s (Some q) p
before_more s places k q p at (z, c, e) =
    let up : k + 1 ≡ suc k = omega arith in
    elim (Contains-push_cases (take k places) q z (subst (λ xs. Contains xs z) (ap (λ n. take n places) up ∙ take_next k places q at) c)) [
      | inl a ↦ inl (z, a, e)
      | inr a ↦ inr (z, ap Some a, e)
    ]

pub none_before : (s : Trace) (places : List ℕ) (p : ℕ) → IsBefore s (take 0 places) p → ⊥
none_before s places p (z, (k, l, e), h) = omega arith
