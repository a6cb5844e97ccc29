-- Places by their slots and numbers.
use Rattle.std.proofs.Common.{◌≡◌, ℕ, suc, ◌<◌, inl, inr, true, false, nat_lt, length, slice_get, Option, Some, None, refl, sym, ap, subst, ◌∙◌, arith}
use Rattle.std.specs.Option.{option_map, option_map_or}
use Rattle.std.proofs.lemmas.Bool.{cases_lt, false≢true}
use Rattle.std.proofs.lemmas.Option.{none-some, same_Some, slice_get_within}
use Rattle.trace_model.specs.declared.traces.event.Event.{Event}
use Rattle.trace_model.specs.Theory.Trace.{Trace, OfThread, EarlierInThread}
use Rattle.trace_model.specs.Theory.Closure.{ascending_places}
use Rattle.trace_model.proofs.Lists.{at_index}
use Rattle.trace_index.specs.Numbers.{of_thread, earlier_events, number_at}
use Rattle.segments.proofs.Counting.{count_max, length_ascending}
use Rattle.fronts.specs.Slots.{AreSlots, HasSlotPosition, in_front, HasFirst}
use Rattle.fronts.proofs.Counts.{count_lt}
use Rattle.trace_model.proofs.Theory.Computed.{of_thread_from}
use Rattle.fronts.proofs.FrontLemmas.{earlier_lt, lt_true, lt_so}
use Rattle.fronts.proofs.ThreadLemmas.{numbered_at, place_below}

pub number_of : (s : Trace) (p t : ℕ) → OfThread s p t → number_at s p ≡ Some (earlier_events s t p)
number_of s p t (o, h) = rw h refl

pub number_is : (s : Trace) (p t n : ℕ) → OfThread s p t → number_at s p ≡ Some n → earlier_events s t p ≡ n
number_is s p t n o h = same_Some (earlier_events s t p) n (sym (number_of s p t o) ∙ h)

-- A number is below the length of the trace.
pub number_within : (s : Trace) (p n : ℕ) → number_at s p ≡ Some n → n < length s
number_within s p n h = go (slice_get s p) refl h
  where
    go : (o : Option Event) → slice_get s p ≡ o → option_map (λ e. earlier_events s e.thread p) o ≡ Some n → n < length s
    go None e k = absurd (none-some n k)
    go (Some v) e k = omega (arith, same_Some (earlier_events s v.thread p) n k, count_max (of_thread s v.thread) p, slice_get_within s p v e)

-- Of two places of a thread, the one with the lower number is earlier.
pub position_before : (s : Trace) (slots : ℕ → Option ℕ) (count p q a n m : ℕ) → AreSlots s slots count →
    HasSlotPosition s slots p a n → HasSlotPosition s slots q a m → n < m → EarlierInThread s p q
position_before s slots count p q a n m k x y l =
    let (t, o) = k.of_place p a x.slot in
    let u = k.apart p q a t x.slot y.slot o in
    let np = number_is s p t n o x.number in
    let nq = number_is s q t m u y.number in (
      t,
      o,
      u,
      elim (cases_lt p q) [
        | inl before ↦ before
        | inr after ↦ elim (cases_lt q p) [
          | inl later ↦ absurd (omega (arith, earlier_lt s t q p u later, np, nq, l))
          | inr also ↦
              let same : p ≡ q = omega (arith, after, also) in
              absurd (omega (arith, ap (earlier_events s t) same, np, nq, l))
        ]
      ],
    )

pub before_position : (s : Trace) (slots : ℕ → Option ℕ) (count p q a n m : ℕ) → AreSlots s slots count →
    HasSlotPosition s slots p a n → HasSlotPosition s slots q a m → p < q → n < m
before_position s slots count p q a n m k x y l =
    let (t, o) = k.of_place p a x.slot in
    let u = k.apart p q a t x.slot y.slot o in
    omega (arith, earlier_lt s t p q o l, number_is s p t n o x.number, number_is s q t m u y.number)

-- A place of the thread has the position of its number.
pub position_of : (s : Trace) (slots : ℕ → Option ℕ) (count p a t : ℕ) → slots p ≡ Some a → OfThread s p t → HasSlotPosition s slots p a (earlier_events s t p)
position_of s slots count p a t e o = record { slot = e; number = number_of s p t o }

-- An earlier place of the thread has the same slot and a lower number.
pub earlier_position : (s : Trace) (slots : ℕ → Option ℕ) (count p q a m : ℕ) → AreSlots s slots count → HasSlotPosition s slots q a m → EarlierInThread s p q →
    (n : ℕ) × HasSlotPosition s slots p a n × (n < m)
earlier_position s slots count p q a m k y (t, o, u, l) =
    let e : slots p ≡ Some a = k.alike q p a t y.slot u o in
    let x = position_of s slots count p a t e o in
    (earlier_events s t p, x, before_position s slots count p q a (earlier_events s t p) m k x y l)

-- There is a place for each lower number.
pub has_before : (s : Trace) (slots : ℕ → Option ℕ) (count q a m : ℕ) → AreSlots s slots count → HasSlotPosition s slots q a m → HasFirst s slots a m
has_before s slots count q a m k y n l =
    let (t, u) = k.of_place q a y.slot in
    let e = number_is s q t m u y.number in
    let xs = ascending_places (of_thread s t) (length s) in
    let less = count_lt (of_thread s t) q (length s) (place_below s t q u) (of_thread_from s t q u) in
    let inside : n < length xs = omega (arith, e, less, length_ascending (of_thread s t) (length s)) in
    let (p, h) = at_index xs n inside in
    let is = numbered_at s t n p h in
    (p, record { slot = k.alike q p a t y.slot u is.0; number = number_of s p t is.0 ∙ ap Some is.1 })

-- The same, including the place itself.
pub has_upto : (s : Trace) (slots : ℕ → Option ℕ) (count q a m : ℕ) → AreSlots s slots count → HasSlotPosition s slots q a m → HasFirst s slots a (suc m)
has_upto s slots count q a m k y n l = elim (cases_lt n m) [
  | inl less ↦ has_before s slots count q a m k y n less
  | inr not ↦ let e : m ≡ n = omega (arith, l, not) in (q, subst (HasSlotPosition s slots q a) e y)
]

pub in_front_at : (s : Trace) (slots : ℕ → Option ℕ) (front : ℕ → ℕ) (p a n : ℕ) → HasSlotPosition s slots p a n → in_front s slots front p ≡ nat_lt n (front a)
in_front_at s slots front p a n x = rw (x.slot, x.number) refl

pub in_front_from : (s : Trace) (slots : ℕ → Option ℕ) (front : ℕ → ℕ) (p a n : ℕ) → HasSlotPosition s slots p a n → n < front a → in_front s slots front p ≡ true
in_front_from s slots front p a n x l = in_front_at s slots front p a n x ∙ lt_true n (front a) l

pub in_front_so : (s : Trace) (slots : ℕ → Option ℕ) (front : ℕ → ℕ) (p : ℕ) → in_front s slots front p ≡ true →
    (a : ℕ) × (n : ℕ) × HasSlotPosition s slots p a n × (n < front a)
in_front_so s slots front p h = go (slots p) (number_at s p) refl refl h
  where
    go : (a : Option ℕ) (n : Option ℕ) → slots p ≡ a → number_at s p ≡ n →
        option_map_or (λ a. option_map_or (λ n. nat_lt n (front a)) n false) a false ≡ true →
        (a : ℕ) × (n : ℕ) × HasSlotPosition s slots p a n × (n < front a)
    go None n e f k = absurd (false≢true k)
    go (Some a) None e f k = absurd (false≢true k)
    go (Some a) (Some n) e f k = (a, n, record { slot = e; number = f }, lt_so n (front a) k)

pub has_number : (s : Trace) (slots : ℕ → Option ℕ) (count p a : ℕ) → AreSlots s slots count → slots p ≡ Some a → (n : ℕ) × HasSlotPosition s slots p a n
has_number s slots count p a k e =
    let (t, o) = k.of_place p a e in
    (earlier_events s t p, position_of s slots count p a t e o)
