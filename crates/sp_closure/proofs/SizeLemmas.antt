-- The sum of the fronts is the number of included places.
use Rattle.std.proofs.Common.{◌≡◌, ◌≢◌, ℕ, zero, suc, ◌+◌, ◌<◌, ◌≤◌, inl, inr, List, min, Bool, true, false, ◌&&◌, cond, nat_lt, length, Option, refl, sym, ap, ◌∙◌, arith}
use Rattle.std.proofs.lemmas.Bool.{cases_lt}
use Rattle.std.proofs.lemmas.Option.{same_Some}
use Rattle.std.specs.Arc.{arc_value}
use Rattle.std.specs.List.{Contains}
use Rattle.trace_model.specs.Theory.Trace.{Trace}
use Rattle.trace_model.specs.Theory.Lawful.{IsWellFormed}
use Rattle.trace_model.specs.Theory.Closure.{Places, IsClosure, ascending_places}
use Rattle.segments.specs.Linking.{count_below}
use Rattle.segments.proofs.Counting.{length_ascending, count-agree}
use Rattle.trace_index.specs.Numbers.{of_thread}
use Rattle.fronts.specs.declared.slot_table.SlotTable.{SlotTable}
use Rattle.fronts.specs.declared.fronts.Fronts.{Fronts}
use Rattle.fronts.specs.Slots.{slots_of, AreSlots, AreSlotPlaces, AreThreadSlots, HasSlotPosition, HasFirst, HasFronts, in_front}
use Rattle.fronts.specs.State.{included_count, included_set, size_in}
use Rattle.fronts.specs.Propagation.{sum_to}
use Rattle.fronts.proofs.FrontLemmas.{lt_true, lt_false}
use Rattle.fronts.proofs.PlaceLemmas.{false_from}
use Rattle.fronts.proofs.SlotLemmas.{has_number, number_is, in_front_at, in_front_so}
use Rattle.sp_closure.proofs.BaseLemmas.{in_slot, slot_so, slot_from, one_of, same_thread, first_counted, count_step, set_of_fronts, sum_none, sum_plus, sum_equal}

-- The place is of the slot, and included.
abbrev slot_in : Trace → (ℕ → Option ℕ) → (ℕ → ℕ) → ℕ → Places
slot_in s slots front a p = in_slot slots a p && in_front s slots front p

off : (b : Bool) → (b && false) ≡ false
off true = refl
off false = refl

step_off : (test : Places) (n : ℕ) → test n ≡ false → count_below test (suc n) ≡ count_below test n
step_off test n e = ap (λ b. cond b (suc (count_below test n)) (count_below test n)) e

step_on : (test : Places) (n : ℕ) → test n ≡ true → count_below test (suc n) ≡ suc (count_below test n)
step_on test n e = ap (λ b. cond b (suc (count_below test n)) (count_below test n)) e

-- The number of a place counts the earlier places of its slot.
slot_number : (s : Trace) (slots : ℕ → Option ℕ) (count p a m : ℕ) → AreSlots s slots count → HasSlotPosition s slots p a m → count_below (in_slot slots a) p ≡ m
slot_number s slots count p a m known x =
    let (t, o) = known.of_place p a x.slot in
    sym (count-agree (of_thread s t) (in_slot slots a) p (λ q l. same_thread s slots count p a t known x.slot o q)) ∙ number_is s p t m o x.number

-- Of the slot's places below `n`, the front's count are included, if there are that many.
slot_counted : (s : Trace) (slots : ℕ → Option ℕ) (count : ℕ) (front : ℕ → ℕ) (a n : ℕ) → AreSlots s slots count →
    count_below (slot_in s slots front a) n ≡ min (count_below (in_slot slots a) n) (front a)
slot_counted s slots count front a zero known = omega arith
slot_counted s slots count front a (suc n) known = go (slot_counted s slots count front a n known) (in_slot slots a n) refl
  where
    go : count_below (slot_in s slots front a) n ≡ min (count_below (in_slot slots a) n) (front a) → (b : Bool) → in_slot slots a n ≡ b →
        count_below (slot_in s slots front a) (suc n) ≡ min (count_below (in_slot slots a) (suc n)) (front a)
    go more false e =
        let out : slot_in s slots front a n ≡ false = ap (λ b. b && in_front s slots front n) e in
        omega (arith, more, step_off (slot_in s slots front a) n out, step_off (in_slot slots a) n e)
    go more true e =
        let (m, x) = has_number s slots count n a known (slot_so slots a n e) in
        let number : count_below (in_slot slots a) n ≡ m = slot_number s slots count n a m known x in
        let here : slot_in s slots front a n ≡ nat_lt m (front a) = ap (λ b. b && in_front s slots front n) e ∙ in_front_at s slots front n a m x in
        elim (cases_lt m (front a)) [
          | inl l ↦ omega (arith, more, number, l, step_on (slot_in s slots front a) n (here ∙ lt_true m (front a) l), step_on (in_slot slots a) n e)
          | inr l ↦ omega (arith, more, number, l, step_off (slot_in s slots front a) n (here ∙ lt_false m (front a) l), step_on (in_slot slots a) n e)
        ]

sum_nothing : (f : ℕ → ℕ) (n : ℕ) → ((b : ℕ) → b < n → f b ≡ 0) → sum_to f n ≡ 0
sum_nothing f zero h = refl
sum_nothing f (suc n) h = omega (arith, sum_nothing f n (λ b l. h b (omega (arith, l))), h n (omega arith))

sum_single : (f : ℕ → ℕ) (a n : ℕ) → a < n → f a ≡ 1 → ((b : ℕ) → b ≢ a → f b ≡ 0) → sum_to f n ≡ 1
sum_single f a zero l one others = absurd (omega (arith, l))
sum_single f a (suc n) l one others = elim (cases_lt a n) [
  | inl below ↦ omega (arith, sum_single f a n below one others, others n (λ e. omega (arith, below, e)))
  | inr above ↦
      let e : a ≡ n = omega (arith, l, above) in
      omega (arith, sum_nothing f n (λ b m. others b (λ h. omega (arith, m, h, e))), ap f e, one)
]

-- An included place is of one slot.
sum_in : (s : Trace) (slots : ℕ → Option ℕ) (count : ℕ) (front : ℕ → ℕ) (p : ℕ) → AreSlots s slots count →
    sum_to (λ a. one_of (slot_in s slots front a p)) count ≡ one_of (in_front s slots front p)
unfolding one_of
sum_in s slots count front p known = go (in_front s slots front p) refl
  where
    go : (b : Bool) → in_front s slots front p ≡ b → sum_to (λ a. one_of (slot_in s slots front a p)) count ≡ one_of (in_front s slots front p)
    go false e =
        sum_none (λ a. one_of (slot_in s slots front a p)) count (λ a. ap one_of (ap (λ b. in_slot slots a p && b) e ∙ off (in_slot slots a p)))
        ∙ sym (ap one_of e)
    go true e =
        let (a, n, x, l) = in_front_so s slots front p e in
        let (t, o) = known.of_place p a x.slot in
        let (b, h, less) = known.each p t o in
        let same : b ≡ a = same_Some b a (sym h ∙ x.slot) in
        sum_single (λ c. one_of (slot_in s slots front c p)) a count (omega (arith, less, same))
        (ap one_of (ap (λ c. c && in_front s slots front p) (slot_from slots a p x.slot) ∙ e))
        (λ c apart. ap one_of (ap (λ d. d && in_front s slots front p) (false_from (in_slot slots c p) (λ k. apart (same_Some c a (sym (slot_so slots c p k) ∙ x.slot))))))
        ∙ sym (ap one_of e)

sum_counted : (s : Trace) (slots : ℕ → Option ℕ) (count : ℕ) (front : ℕ → ℕ) (k : ℕ) → AreSlots s slots count →
    sum_to (λ a. count_below (slot_in s slots front a) k) count ≡ count_below (in_front s slots front) k
sum_counted s slots count front zero known = sum_none (λ a. count_below (slot_in s slots front a) zero) count (λ a. refl)
sum_counted s slots count front (suc k) known =
    omega (
      arith,
      sum_counted s slots count front k known,
      sum_in s slots count front k known,
      sum_equal (λ a. count_below (slot_in s slots front a) (suc k)) (λ a. count_below (slot_in s slots front a) k + one_of (slot_in s slots front a k)) count (λ a. count_step (slot_in s slots front a) k),
      sum_plus (λ a. count_below (slot_in s slots front a) k) (λ a. one_of (slot_in s slots front a k)) count,
      count_step (in_front s slots front) k,
    )

-- Fronts within the trace add up to the number of included places.
pub fronts_size : (s : Trace) (slots : ℕ → Option ℕ) (count : ℕ) (front : ℕ → ℕ) → AreSlots s slots count → ((a : ℕ) → HasFirst s slots a (front a)) →
    sum_to front count ≡ length (ascending_places (in_front s slots front) (length s))
fronts_size s slots count front known has =
    sum_equal front (λ a. count_below (slot_in s slots front a) (length s)) count
    (λ a. omega (arith, slot_counted s slots count front a (length s) known, first_counted s slots count a (front a) known (has a)))
    ∙ (sum_counted s slots count front (length s) known ∙ sym (length_ascending (in_front s slots front) (length s)))

-- Fronts that are a closure with these fronts, and have the same number of places.
pub record AreGathered (s : Trace) (threads : SlotTable) (front : ℕ → ℕ) (fronts : Fronts) : Type 0 where
  pub set : in_front s (slots_of threads) front ≡ included_set fronts
  pub size : HasFronts s (slots_of threads) front → sum_to front threads.count ≡ size_in s fronts

pub all_gathered : (s : Trace) (places : List ℕ) (threads : SlotTable) (front : ℕ → ℕ) (fronts : Fronts) → IsWellFormed s → AreThreadSlots s threads →
    AreSlotPlaces s (slots_of threads) (arc_value fronts.positions) → ((a : ℕ) → a < threads.count → included_count fronts a ≡ front a) → ((p : ℕ) → Contains places p → p ≤ fronts.end) →
    IsClosure s places (in_front s (slots_of threads) front) → AreGathered s threads front fronts
all_gathered s places threads front fronts w known are same most closure =
    let set = set_of_fronts s places (slots_of threads) threads.count front fronts w known are (λ a l. sym (same a l)) most closure in
    record {
      set = set;
      size = λ has. fronts_size s (slots_of threads) threads.count front known has ∙ ap (λ z. length (ascending_places z (length s))) set;
    }
