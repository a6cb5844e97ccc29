-- Reached places stay reached as the trace grows; reached instances have a least one.
use Rattle.std.proofs.Common.{◌≡◌, ℕ, ◌<◌, ◌≤◌, inl, inr, true, ltb, ◌&&◌, List, ◌++◌, length, Some, ◌↔◌, sym, ap, subst, ◌∙◌, arith}
use Rattle.std.proofs.lemmas.Bool.{and_parts, and_from, ltb-true, lt-ltb}
use Rattle.std.proofs.lemmas.Option.{same_Some, slice_get_within}
use Rattle.std.specs.List.{Contains}
use Rattle.trace_model.specs.declared.traces.event.Event.{Event}
use Rattle.trace_model.specs.declared.traces.event.Op.{Op}
use Rattle.trace_model.specs.declared.traces.event.Op.TheVariants.{Fork, Join}
use Rattle.trace_model.specs.Theory.Trace.{Trace, event, At, Does, OfThread, EarlierInThread}
use Rattle.trace_model.specs.Theory.Held.{depth, Begins, Ends, BeginsOn}
use Rattle.trace_model.specs.Theory.Lawful.{IsWellFormed}
use Rattle.trace_model.specs.Theory.Lookups.{writer, release}
use Rattle.trace_model.specs.Theory.Reordering.{ForkOrJoin, AreReached}
use Rattle.trace_model.specs.Theory.Closure.{Places, IsClosed, HoldsPredecessors, InClosure, ascending_places}
use Rattle.trace_model.proofs.Theory.Prefix.{depth-agree, writer-agree}
use Rattle.trace_model.proofs.Theory.Sections.{released_between}
use Rattle.trace_model.proofs.Theory.Lookups.{writer_so, release_so, release_is}
use Rattle.trace_model.proofs.Theory.Ascending.{listed, listed_contains}
use Rattle.trace_model.proofs.Theory.Existence.{needed_before, closed_reorders, closed_reaches, reordering_closes, reaching_holds}
use Rattle.trace_model.proofs.Lists.{get-append}

-- the release of the earlier of two acquires is before the later
pub release_before : (s : Trace) → IsWellFormed s → (p q r l : ℕ) → p < q → BeginsOn s p l → BeginsOn s q l →
    release s p ≡ Some r → r < q
release_before s w p q r l below a b e =
    let z = released_between s w p q l below a b in
    subst (λ x. x < q) (same_Some z.0 r (sym z.1 ∙ e)) z.3

-- the places below any number are closed
pub below_closed : (s : Trace) → IsWellFormed s → (m : ℕ) → IsClosed s (λ x. ltb x m)
below_closed s w m = record {
  threads = λ p q h e. lt-ltb p m (omega (arith, ltb-true q m h, e.3));
  forks_joins = λ p q h e. lt-ltb p m (omega (arith, ltb-true q m h, needed_before s w p q e));
  writers = λ x q h e. lt-ltb x m (omega (arith, ltb-true q m h, (writer_so s q x e).2.0));
  sections = λ p q r l below a b h k e. lt-ltb r m (omega (arith, ltb-true q m k, release_before s w p q r l below a b e));
}

-- the closure is before the greatest given place
pub closure_below : (s : Trace) → IsWellFormed s → (places : List ℕ) (m q : ℕ) →
    ((p : ℕ) → Contains places p → p ≤ m) → InClosure s places q → q < m
closure_below s w places m q bound h =
    ltb-true q m (h (λ x. ltb x m) (below_closed s w m) (λ p u c e. lt-ltb u m (omega (arith, e.3, bound p c))))

-- the intersection of two closed sets is closed
pub both_closed : (s : Trace) (a b : Places) → IsClosed s a → IsClosed s b → IsClosed s (λ x. a x && b x)
both_closed s a b c d = record {
  threads = λ p q h e. let k = and_parts (a q) (b q) h in and_from (a p) (b p) (c.threads p q k.0 e) (d.threads p q k.1 e);
  forks_joins = λ p q h e. let k = and_parts (a q) (b q) h in and_from (a p) (b p) (c.forks_joins p q k.0 e) (d.forks_joins p q k.1 e);
  writers = λ x q h e. let k = and_parts (a q) (b q) h in and_from (a x) (b x) (c.writers x q k.0 e) (d.writers x q k.1 e);
  sections = λ p q r l below x y h k e.
      let i = and_parts (a p) (b p) h in
      let j = and_parts (a q) (b q) k in
      and_from (a r) (b r) (c.sections p q r l below x y i.0 j.0 e) (d.sections p q r l below x y i.1 j.1 e);
}

-- the same event is in the longer trace, and in the shorter one
pub at_longer : (s r : Trace) (p : ℕ) (e : Event) → At s p e → At (s ++ r) p e
at_longer s r p e h = get-append s r p (slice_get_within s p e h) ∙ h

pub at_shorter : (s r : Trace) (p : ℕ) (e : Event) → p < length s → At (s ++ r) p e → At s p e
at_shorter s r p e l h = sym (get-append s r p l) ∙ h

pub does_longer : (s r : Trace) (p : ℕ) (o : Op) → Does s p o → Does (s ++ r) p o
does_longer s r p o (t, h) = (t, at_longer s r p (event t o) h)

pub does_shorter : (s r : Trace) (p : ℕ) (o : Op) → p < length s → Does (s ++ r) p o → Does s p o
does_shorter s r p o l (t, h) = (t, at_shorter s r p (event t o) l h)

pub thread_longer : (s r : Trace) (p t : ℕ) → OfThread s p t → OfThread (s ++ r) p t
thread_longer s r p t (o, h) = (o, at_longer s r p (event t o) h)

pub thread_shorter : (s r : Trace) (p t : ℕ) → p < length s → OfThread (s ++ r) p t → OfThread s p t
thread_shorter s r p t l (o, h) = (o, at_shorter s r p (event t o) l h)

pub earlier_longer : (s r : Trace) (p q : ℕ) → EarlierInThread s p q → EarlierInThread (s ++ r) p q
earlier_longer s r p q (t, a, b, l) = (t, thread_longer s r p t a, thread_longer s r q t b, l)

pub earlier_shorter : (s r : Trace) (p q : ℕ) → q < length s → EarlierInThread (s ++ r) p q → EarlierInThread s p q
earlier_shorter s r p q m (t, a, b, l) = (t, thread_shorter s r p t (omega arith) a, thread_shorter s r q t m b, l)

pub needs_longer : (s r : Trace) (p q : ℕ) → ForkOrJoin s p q → ForkOrJoin (s ++ r) p q
needs_longer s r p q (inl (t, o, f)) = inl (t, thread_longer s r q t o, does_longer s r p (Fork t) f)
needs_longer s r p q (inr (c, j, inl f)) = inr (c, does_longer s r q (Join c) j, inl (does_longer s r p (Fork c) f))
needs_longer s r p q (inr (c, j, inr o)) = inr (c, does_longer s r q (Join c) j, inr (thread_longer s r p c o))

pub needs_shorter : (s r : Trace) (p q : ℕ) → p < length s → q < length s → ForkOrJoin (s ++ r) p q → ForkOrJoin s p q
needs_shorter s r p q k l (inl (t, o, f)) = inl (t, thread_shorter s r q t l o, does_shorter s r p (Fork t) k f)
needs_shorter s r p q k l (inr (c, j, inl f)) = inr (c, does_shorter s r q (Join c) l j, inl (does_shorter s r p (Fork c) k f))
needs_shorter s r p q k l (inr (c, j, inr o)) = inr (c, does_shorter s r q (Join c) l j, inr (thread_shorter s r p c k o))

pub writer_longer : (s r : Trace) (q : ℕ) → q < length s → writer (s ++ r) q ≡ writer s q
writer_longer s r q l = writer-agree (s ++ r) s q (λ p k. get-append s r p (omega arith))

depth_longer : (s r : Trace) (p t l : ℕ) → p ≤ length s → depth (s ++ r) p t l ≡ depth s p t l
depth_longer s r p t l low = depth-agree (s ++ r) s p t l (λ k m. get-append s r k (omega arith))

pub begins_longer : (s r : Trace) (p t l : ℕ) → Begins s p t l → Begins (s ++ r) p t l
begins_longer s r p t l (a, b) =
    let low : p < length s = slice_get_within s p _ a in
    (at_longer s r p _ a, depth_longer s r p t l (omega arith) ∙ b)

pub begins_shorter : (s r : Trace) (p t l : ℕ) → p < length s → Begins (s ++ r) p t l → Begins s p t l
begins_shorter s r p t l low (a, b) = (at_shorter s r p _ low a, sym (depth_longer s r p t l (omega arith)) ∙ b)

ends_longer : (s r : Trace) (p t l : ℕ) → Ends s p t l → Ends (s ++ r) p t l
ends_longer s r p t l (a, b) =
    let low : p < length s = slice_get_within s p _ a in
    (at_longer s r p _ a, depth_longer s r p t l (omega arith) ∙ b)

ends_shorter : (s r : Trace) (p t l : ℕ) → p < length s → Ends (s ++ r) p t l → Ends s p t l
ends_shorter s r p t l low (a, b) = (at_shorter s r p _ low a, sym (depth_longer s r p t l (omega arith)) ∙ b)

pub release_longer : (s r : Trace) (p x : ℕ) → release s p ≡ Some x → release (s ++ r) p ≡ Some x
release_longer s r p x h =
    let (t, l, begins, is) = release_so s p x h in
    let within = slice_get_within s x _ is.1.0 in
    release_is (s ++ r) p t l x (begins_longer s r p t l begins)
    (is.0, ends_longer s r x t l is.1, λ u i j d. is.2 u i j (ends_shorter s r u t l (omega arith) d))

-- a set that is closed in the longer trace is closed in the shorter one
pub closed_shorter : (s r : Trace) (set : Places) → IsClosed (s ++ r) set → IsClosed s set
closed_shorter s r set c = record {
  threads = λ p q h e. c.threads p q h (earlier_longer s r p q e);
  forks_joins = λ p q h e. c.forks_joins p q h (needs_longer s r p q e);
  writers = λ x q h e. let k = writer_so s q x e in
      c.writers x q h (writer_longer s r q (slice_get_within s q _ k.1.1) ∙ e);
  sections = λ p q x l below a b h k e.
      c.sections p q x l below (a.0, begins_longer s r p a.0 l a.1) (b.0, begins_longer s r q b.0 l b.1) h k (release_longer s r p x e);
}

abbrev pub within : Trace → Places → Places
within s set x = set x && ltb x (length s)

-- the part of a closed set that is in the shorter trace is closed in the longer one
pub closed_longer : (s r : Trace) → IsWellFormed s → IsWellFormed (s ++ r) → (set : Places) → IsClosed s set → IsClosed (s ++ r) (within s set)
closed_longer s r v w set c = record {
  threads = λ p q h e. let k = parts q h in
      join p (c.threads p q k.0 (earlier_shorter s r p q k.1 e)) (omega (arith, k.1, e.3));
  forks_joins = λ p q h e. let k = parts q h in
      let below = needed_before (s ++ r) w p q e in
      let low : p < length s = omega (arith, k.1, below) in
      join p (c.forks_joins p q k.0 (needs_shorter s r p q low k.1 e)) low;
  writers = λ x q h e. let k = parts q h in
      let is : writer s q ≡ Some x = sym (writer_longer s r q k.1) ∙ e in
      join x (c.writers x q k.0 is) (omega (arith, k.1, (writer_so s q x is).2.0));
  sections = λ p q x l below a b h k e.
      let i = parts p h in
      let j = parts q k in
      let a' : BeginsOn s p l = (a.0, begins_shorter s r p a.0 l i.1 a.1) in
      let b' : BeginsOn s q l = (b.0, begins_shorter s r q b.0 l j.1 b.1) in
      let z = released_between s v p q l below a' b' in
      let same : z.0 ≡ x = same_Some z.0 x (sym (release_longer s r p z.0 z.1) ∙ e) in
      let is : release s p ≡ Some x = z.1 ∙ ap Some same in
      join x (c.sections p q x l below a' b' i.0 j.0 is) (omega (arith, z.3, same, j.1));
}
  where
    parts : (q : ℕ) → within s set q ≡ true → (set q ≡ true) × (q < length s)
    parts q h = let k = and_parts (set q) (ltb q (length s)) h in (k.0, ltb-true q (length s) k.1)

    join : (q : ℕ) → set q ≡ true → q < length s → within s set q ≡ true
    join q h l = and_from (set q) (ltb q (length s)) h (lt-ltb q (length s) l)

-- the closure is unchanged when the trace grows
pub closure_longer : (s r : Trace) → IsWellFormed s → IsWellFormed (s ++ r) → (places : List ℕ) →
    ((p : ℕ) → Contains places p → p < length s) → (q : ℕ) → InClosure s places q ↔ InClosure (s ++ r) places q
closure_longer s r v w places low q = (
  (λ h set c d. h set (closed_shorter s r set c) (λ p u k e. d p u k (earlier_longer s r u p e))),
  λ h set c d. (and_parts (set q) (ltb q (length s))
      (h (within s set) (closed_longer s r v w set c)
      (λ p u k e. and_from (set u) (ltb u (length s)) (d p u k (earlier_shorter s r u p (low p k) e)) (lt-ltb u (length s) (omega (arith, e.3, low p k)))))).0,
)

-- from a closed set to what it reaches
pub reached_from : (s : Trace) → IsWellFormed s → (places : List ℕ) (set : Places) → IsClosed s set → HoldsPredecessors s places set →
    ((p : ℕ) → Contains places p → set p ≡ true → ⊥) → AreReached s places
reached_from s w places set c d none = (ascending_places set (length s), closed_reorders s w set c, closed_reaches s places set d none)

pub reached_longer : (s r : Trace) → IsWellFormed s → IsWellFormed (s ++ r) → (places : List ℕ) →
    ((p : ℕ) → Contains places p → p < length s) → AreReached s places ↔ AreReached (s ++ r) places
reached_longer s r v w places low = (
  (λ (order, o, e). reached_from (s ++ r) w places (within s (listed order))
      (closed_longer s r v w (listed order) (reordering_closes s order o))
      (λ p u k x. let y = earlier_shorter s r u p (low p k) x in
      and_from (listed order u) (ltb u (length s)) (reaching_holds s order places e p u k y) (lt-ltb u (length s) (omega (arith, x.3, low p k))))
      (λ p k h. (e p k).0 (listed_contains order p (and_parts (listed order p) (ltb p (length s)) h).0))),
  λ (order, o, e). reached_from s v places (listed order)
      (closed_shorter s r (listed order) (reordering_closes (s ++ r) order o))
      (λ p u k x. reaching_holds (s ++ r) order places e p u k (earlier_longer s r u p x))
      (λ p k h. (e p k).0 (listed_contains order p h)),
)
