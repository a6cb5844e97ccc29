-- The slots of threads and of locks, by their first places.
use Rattle.std.proofs.Common.{◌≡◌, ℕ, zero, suc, ◌+◌, ◌<◌, ◌≤◌, ◌==◌, inl, inr, true, false, cond, List, length, slice_get, Option, Some, None, IfSome, refl, sym, ap, subst, ◌∙◌, arith, add-one}
use Rattle.std.specs.Option.{option_map, option_map_or, option_and_then}
use Rattle.std.proofs.lemmas.Bool.{cases_lt, eq-eqb}
use Rattle.std.proofs.lemmas.Bool.Decides.{eqb_tells}
use Rattle.std.proofs.lemmas.Option.{none-some, same_Some, slice_get_within}
use Rattle.trace_model.specs.declared.traces.event.Event.{Event}
use Rattle.trace_model.specs.Theory.Trace.{Trace, At, last_place, OfThread}
use Rattle.trace_model.specs.Theory.Held.{BeginsOn, begins_on, begun_lock}
use Rattle.trace_model.specs.Theory.Closure.{Places, ascending_places}
use Rattle.trace_model.proofs.Theory.Lookups.{begins_so, begins_from}
use Rattle.trace_model.proofs.Theory.Places.{last_place_some, last_place_none}
use Rattle.trace_model.proofs.Theory.Ascending.{ascending_so, place_of, contains_ascending}
use Rattle.trace_model.proofs.Theory.Unique.{ascending_strict, increasing_ordered}
use Rattle.trace_model.proofs.Lists.{at_index}
use Rattle.trace_model.proofs.Theory.Least.{at_thread}
use Rattle.std.specs.List.Sorted.{IsStrictlyIncreasing}
use Rattle.trace_index.specs.Numbers.{of_thread, thread_before, acquire_before}
use Rattle.trace_model.proofs.Theory.Begun.{begun_so, begun_from}
use Rattle.fronts.specs.Slots.{AreSlots}
use Rattle.fronts.specs.Requirements.{AreLocks}
use Rattle.fronts.specs.Firsts.{first_of_thread, first_of_lock, is_first, firsts_below, slot_by, thread_slot_at, lock_slot_at, threads_below, locks_below, slot_count_after}
use Rattle.fronts.proofs.Counts.{count_lt}
use Rattle.trace_model.proofs.Theory.Computed.{of_thread_from}
use Rattle.trace_model.proofs.Theory.Derivable.{of_thread_so}
use Rattle.fronts.proofs.ThreadLemmas.{place_below}

-- The first of the places with the property, at or before each of them.
least_listed : (f : Places) (n p : ℕ) → p < n → f p ≡ true → (x : ℕ) × (slice_get (ascending_places f n) 0 ≡ Some x) × (x ≤ p) × (f x ≡ true) × (x < n)
least_listed f n p l h =
    let (k, at) = place_of (ascending_places f n) p (contains_ascending f n p l h) in
    let inside = slice_get_within (ascending_places f n) k p at in
    let (x, first) = at_index (ascending_places f n) 0 (omega (arith, inside)) in
    let so = ascending_so f n 0 x first in
    (x, first, before (ascending_places f n) (ascending_strict f n) k x p first at, so.1, so.0)
  where
    before : (xs : List ℕ) → IsStrictlyIncreasing xs → (k x p : ℕ) → slice_get xs 0 ≡ Some x → slice_get xs k ≡ Some p → x ≤ p
    before xs up zero x p a b = omega (arith, same_Some x p (sym a ∙ b))
    before xs up (suc k) x p a b = omega (arith, increasing_ordered xs up 0 (suc k) x p (omega arith) a b)

-- A place that is its own first place passes the test.
passes : (first_of : ℕ → Option ℕ) (x : ℕ) → first_of x ≡ Some x → is_first first_of x ≡ true
passes first_of x e = ap (λ z. option_map_or (λ y. y == x) z false) e ∙ eq-eqb x x refl

-- A slot is that of a first place.
slot_first : (first_of : ℕ → Option ℕ) (p a : ℕ) → slot_by first_of p ≡ Some a → (x : ℕ) × (first_of p ≡ Some x) × (firsts_below first_of x ≡ a)
slot_first first_of p a h = go (first_of p) refl h
  where
    go : (o : Option ℕ) → first_of p ≡ o → option_map (firsts_below first_of) o ≡ Some a → (x : ℕ) × (first_of p ≡ Some x) × (firsts_below first_of x ≡ a)
    go None e k = absurd (none-some a k)
    go (Some x) e k = (x, e, same_Some (firsts_below first_of x) a k)

-- Two first places with the same number of first places below them are the same place.
one_first : (first_of : ℕ → Option ℕ) (x y : ℕ) → first_of x ≡ Some x → first_of y ≡ Some y → firsts_below first_of x ≡ firsts_below first_of y → x ≡ y
one_first first_of x y fx fy same = elim (cases_lt x y) [
  | inl less ↦ absurd (omega (arith, count_lt (is_first first_of) x y less (passes first_of x fx), same))
  | inr not ↦ elim (cases_lt y x) [
    | inl more ↦ absurd (omega (arith, count_lt (is_first first_of) y x more (passes first_of y fy), same))
    | inr also ↦ omega (arith, not, also)
  ]
]

-- Places grouped by their thread or lock: each place has the first place
-- of its group.
record HaveFirsts (On : ℕ → ℕ → Type 0) (listed : ℕ → Places) (first_of : ℕ → Option ℕ) (n : ℕ) : Type 0 where
  at : (p k : ℕ) → On p k → first_of p ≡ slice_get (ascending_places (listed k) n) 0
  so : (k x : ℕ) → listed k x ≡ true → On x k
  from : (k x : ℕ) → On x k → listed k x ≡ true
  some : (p x : ℕ) → first_of p ≡ Some x → (k : ℕ) × On p k
  one : (p k l : ℕ) → On p k → On p l → k ≡ l
  below : (p k : ℕ) → On p k → p < n

module _ (On : ℕ → ℕ → Type 0) (listed : ℕ → Places) (first_of : ℕ → Option ℕ) (n : ℕ) (h : HaveFirsts On listed first_of n) where
  first_on : (p k : ℕ) → On p k → (x : ℕ) × (first_of p ≡ Some x) × (x ≤ p) × On x k
  first_on p k o =
      let (x, first, l, here, inside) = least_listed (listed k) n p (h.below p k o) (h.from k p o) in
      (x, h.at p k o ∙ first, l, h.so k x here)

  same_first : (p q k : ℕ) → On p k → On q k → first_of q ≡ first_of p
  same_first p q k o oq = h.at q k oq ∙ sym (h.at p k o)

  -- A place that no place of its group precedes is the first.
  own_first : (p k : ℕ) → On p k → ((x : ℕ) → x < p → On x k → ⊥) → Some p ≡ first_of p
  own_first p k o none =
      let (x, first, l, ox) = first_on p k o in
      elim (cases_lt x p) [
        | inl less ↦ absurd (none x less ox)
        | inr more ↦ let same : p ≡ x = omega arith in ap Some same ∙ sym first
      ]

  -- The first place of a group is its own first place.
  first_itself : (p x : ℕ) → first_of p ≡ Some x → (x ≤ p) × (first_of x ≡ Some x)
  first_itself p x e =
      let (k, o) = h.some p x e in
      let (y, first, l, oy) = first_on p k o in
      let is : y ≡ x = same_Some y x (sym first ∙ e) in
      (omega (arith, l, is), same_first p x k o (subst (λ z. On z k) is oy) ∙ e)

  -- A place of the group has a slot.
  each_has : (p k : ℕ) → On p k → (a : ℕ) × (slot_by first_of p ≡ Some a) × (a < firsts_below first_of n)
  each_has p k o =
      let (x, first, l, ox) = first_on p k o in (
        firsts_below first_of x,
        ap (option_map (firsts_below first_of)) first,
        count_lt (is_first first_of) x n (omega (arith, l, h.below p k o)) (passes first_of x (first_itself p x first).1),
      )

  are_alike : (p q k : ℕ) → On p k → On q k → slot_by first_of q ≡ slot_by first_of p
  are_alike p q k o oq = ap (option_map (firsts_below first_of)) (same_first p q k o oq)

  are_apart : (p q a k : ℕ) → slot_by first_of p ≡ Some a → slot_by first_of q ≡ Some a → On p k → On q k
  are_apart p q a k hp hq o =
      let (x, fp, x_is) = slot_first first_of p a hp in
      let (y, fq, y_is) = slot_first first_of q a hq in
      let (m, oq) = h.some q y fq in
      let (z, first_p, l, oz) = first_on p k o in
      let (w, first_q, j, ow) = first_on q m oq in
      let same : x ≡ y = one_first first_of x y (first_itself p x fp).1 (first_itself q y fq).1 (x_is ∙ sym y_is) in
      let ox : On y k = subst (λ u. On u k) (same_Some z x (sym first_p ∙ fp) ∙ same) oz in
      let oy : On y m = subst (λ u. On u m) (same_Some w y (sym first_q ∙ fq)) ow in
      subst (On q) (sym (h.one y k m ox oy)) oq

  -- From the previous place of the group.
  new_slot : (p k : ℕ) → On p k → last_place (listed k) p ≡ None → slot_by first_of p ≡ Some (firsts_below first_of p)
  new_slot p k o none =
      ap (option_map (firsts_below first_of)) (sym (own_first p k o (λ x less ox. last_place_none (listed k) p none x less (h.from k x ox))))

  old_slot : (p q k : ℕ) → On p k → last_place (listed k) p ≡ Some q → (q < p) × (slot_by first_of p ≡ slot_by first_of q)
  old_slot p q k o last =
      let is = last_place_some (listed k) p q last in
      (is.0, are_alike q p k (h.so k q is.1) o)

  -- The slot of a place below `m` is below the number of slots there.
  below_count : (p a m : ℕ) → slot_by first_of p ≡ Some a → p < m → a < firsts_below first_of m
  below_count p a m has less =
      let (x, first, is) = slot_first first_of p a has in
      let itself = first_itself p x first in
      omega (arith, count_lt (is_first first_of) x m (omega (arith, itself.0, less)) (passes first_of x itself.1), is)

  -- The number of slots, with one more place.
  one_more : (p : ℕ) → firsts_below first_of (p + 1) ≡ slot_count_after (slot_by first_of p) (firsts_below first_of p)
  one_more p = ap (firsts_below first_of) (add-one p) ∙ go (first_of p) refl
    where
      count : ℕ
      count = firsts_below first_of p

      go : (o : Option ℕ) → first_of p ≡ o → firsts_below first_of (suc p) ≡ slot_count_after (slot_by first_of p) (firsts_below first_of p)
      go None e =
          ap (λ z. cond (option_map_or (λ x. x == p) z false) (suc count) count) e
          ∙ sym (ap (λ z. slot_count_after (option_map (firsts_below first_of) z) count) e)
      go (Some x) e =
          ap (λ z. cond (option_map_or (λ x. x == p) z false) (suc count) count) e
          ∙ (grown ∙ sym (ap (λ z. slot_count_after (option_map (firsts_below first_of) z) count) e))
        where
          grown : cond (x == p) (suc count) count ≡ slot_count_after (Some (firsts_below first_of x)) count
          grown = elim (eqb_tells x p) [
            | inl same ↦
                ap (λ b. cond b (suc count) count) same.0
                ∙ (sym (add-one count) ∙ sym (ap (λ b. cond b (count + 1) count) (eq-eqb (firsts_below first_of x) count (ap (firsts_below first_of) same.1))))
            | inr other ↦ elim (eqb_tells (firsts_below first_of x) count) [
              | inl full ↦ absurd (omega (arith, full.1, below_count x (firsts_below first_of x) p (ap (option_map (firsts_below first_of)) (first_itself p x e).1) (omega (arith, (first_itself p x e).0, other.1))))
              | inr part ↦ ap (λ b. cond b (suc count) count) other.0 ∙ sym (ap (λ b. cond b (count + 1) count) part.0)
            ]
          ]

thread_at : (s : Trace) (p t : ℕ) → OfThread s p t → first_of_thread s p ≡ slice_get (ascending_places (of_thread s t) (length s)) 0
thread_at s p t (o, h) = rw h refl

some_thread : (s : Trace) (p x : ℕ) → first_of_thread s p ≡ Some x → (t : ℕ) × OfThread s p t
some_thread s p x h = go (slice_get s p) refl h
  where
    go : (o : Option Event) → slice_get s p ≡ o → option_and_then (λ e. slice_get (ascending_places (of_thread s e.thread) (length s)) 0) o ≡ Some x → (t : ℕ) × OfThread s p t
    go None e k = absurd (none-some x k)
    go (Some v) e k = (v.thread, (v.op, e))

threads_have : (s : Trace) → HaveFirsts (OfThread s) (of_thread s) (first_of_thread s) (length s)
threads_have s = record {
  at = thread_at s;
  so = of_thread_so s;
  from = of_thread_from s;
  some = some_thread s;
  one = at_thread s;
  below = λ p t o. place_below s t p o;
}

pub thread_slots : (s : Trace) → AreSlots s (thread_slot_at s) (threads_below s (length s))
thread_slots s = record {
  each = each_has (OfThread s) (of_thread s) (first_of_thread s) (length s) (threads_have s);
  of_place = λ p a h. let (x, first, is) = slot_first (first_of_thread s) p a h in some_thread s p x first;
  apart = are_apart (OfThread s) (of_thread s) (first_of_thread s) (length s) (threads_have s);
  alike = λ p q a t h o oq. are_alike (OfThread s) (of_thread s) (first_of_thread s) (length s) (threads_have s) p q t o oq ∙ h;
}

-- The same for locks.

lock_at : (s : Trace) (p k : ℕ) → BeginsOn s p k → first_of_lock s p ≡ slice_get (ascending_places (begins_on s k) (length s)) 0
lock_at s p k b = ap (option_and_then (λ l. slice_get (ascending_places (begins_on s l) (length s)) 0)) (begun_from s p k b)

some_lock : (s : Trace) (p x : ℕ) → first_of_lock s p ≡ Some x → (k : ℕ) × BeginsOn s p k
some_lock s p x h = go (begun_lock s p) refl h
  where
    go : (o : Option ℕ) → begun_lock s p ≡ o → option_and_then (λ l. slice_get (ascending_places (begins_on s l) (length s)) 0) o ≡ Some x → (k : ℕ) × BeginsOn s p k
    go None e h = absurd (none-some x h)
    go (Some k) e h = (k, begun_so s p k e)

same_lock : (s : Trace) (p k l : ℕ) → BeginsOn s p k → BeginsOn s p l → k ≡ l
same_lock s p k l a b = same_Some k l (sym (begun_from s p k a) ∙ begun_from s p l b)

locks_have : (s : Trace) → HaveFirsts (BeginsOn s) (begins_on s) (first_of_lock s) (length s)
locks_have s = record {
  at = lock_at s;
  so = begins_so s;
  from = begins_from s;
  some = some_lock s;
  one = same_lock s;
  below = λ p k b. slice_get_within s p _ b.1.0;
}

pub lock_slots : (s : Trace) → AreLocks s (lock_slot_at s) (locks_below s (length s))
lock_slots s = record {
  each = each_has (BeginsOn s) (begins_on s) (first_of_lock s) (length s) (locks_have s);
  apart = are_apart (BeginsOn s) (begins_on s) (first_of_lock s) (length s) (locks_have s);
  alike = λ p q l k h o oq. are_alike (BeginsOn s) (begins_on s) (first_of_lock s) (length s) (locks_have s) p q k o oq ∙ h;
}

-- The slot of a place below `m` is below the number of threads there.
pub thread_slot_below : (s : Trace) (p a m : ℕ) → thread_slot_at s p ≡ Some a → p < m → a < threads_below s m
thread_slot_below s = below_count (OfThread s) (of_thread s) (first_of_thread s) (length s) (threads_have s)

-- The number of slots, with one more place.
pub threads_after : (s : Trace) (p : ℕ) → threads_below s (p + 1) ≡ slot_count_after (thread_slot_at s p) (threads_below s p)
threads_after s = one_more (OfThread s) (of_thread s) (first_of_thread s) (length s) (threads_have s)

pub locks_after : (s : Trace) (p : ℕ) → locks_below s (p + 1) ≡ slot_count_after (lock_slot_at s p) (locks_below s p)
locks_after s = one_more (BeginsOn s) (begins_on s) (first_of_lock s) (length s) (locks_have s)

-- From the previous place.
pub thread_new_slot : (s : Trace) (p : ℕ) (e : Event) → At s p e → thread_before s p ≡ None → thread_slot_at s p ≡ Some (threads_below s p)
thread_new_slot s p e a none =
    new_slot (OfThread s) (of_thread s) (first_of_thread s) (length s) (threads_have s) p e.thread (e.op, a) (sym (ap (option_and_then (λ x. last_place (of_thread s x.thread) p)) a) ∙ none)

pub thread_old_slot : (s : Trace) (p q : ℕ) (e : Event) → At s p e → thread_before s p ≡ Some q → (q < p) × (thread_slot_at s p ≡ thread_slot_at s q)
thread_old_slot s p q e a some =
    old_slot (OfThread s) (of_thread s) (first_of_thread s) (length s) (threads_have s) p q e.thread (e.op, a) (sym (ap (option_and_then (λ x. last_place (of_thread s x.thread) p)) a) ∙ some)

pub lock_new_slot : (s : Trace) (p k : ℕ) → begun_lock s p ≡ Some k → acquire_before s p ≡ None → lock_slot_at s p ≡ Some (locks_below s p)
lock_new_slot s p k b none =
    new_slot (BeginsOn s) (begins_on s) (first_of_lock s) (length s) (locks_have s) p k (begun_so s p k b) (sym (ap (option_and_then (λ l. last_place (begins_on s l) p)) b) ∙ none)

pub lock_old_slot : (s : Trace) (p q k : ℕ) → begun_lock s p ≡ Some k → acquire_before s p ≡ Some q → (q < p) × (lock_slot_at s p ≡ lock_slot_at s q)
lock_old_slot s p q k b some =
    old_slot (BeginsOn s) (begins_on s) (first_of_lock s) (length s) (locks_have s) p q k (begun_so s p k b) (sym (ap (option_and_then (λ l. last_place (begins_on s l) p)) b) ∙ some)

-- A place has a lock slot if and only if a section begins there.
pub lock_begun : (s : Trace) (p l : ℕ) → lock_slot_at s p ≡ Some l → (k : ℕ) × BeginsOn s p k
lock_begun s p l h = let (x, first, is) = slot_first (first_of_lock s) p l h in some_lock s p x first

pub lock_none : (s : Trace) (p : ℕ) → lock_slot_at s p ≡ None → (k : ℕ) → BeginsOn s p k → ⊥
lock_none s p none k on = let (l, is, less) = (lock_slots s).each p k on in none-some l (sym none ∙ is)

pub some_within : (o : Option ℕ) (n : ℕ) → ((p : ℕ) → o ≡ Some p → p < n) → IfSome o (λ p. p < n)
some_within None n f = tt
some_within (Some p) n f = f p refl
