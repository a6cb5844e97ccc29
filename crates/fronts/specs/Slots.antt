-- Places by the slot of their thread and their number in it.
use Rattle.std.specs.Prelude.{◌≡◌, ℕ, ◌<◌, nat_lt, Bool, false, IsTrue, List, length, slice_get, Option, Some}
use Rattle.std.specs.Option.{option_map, option_map_or}
use Rattle.std.specs.Arc.{arc_value}
use Rattle.trace_model.specs.Theory.Trace.{Trace, OfThread}
use Rattle.trace_model.specs.Theory.Closure.{Places}
use Rattle.trace_index.specs.Numbers.{number_at}
use Rattle.fronts.specs.declared.slot_table.SlotTable.{SlotTable}
use Rattle.fronts.specs.declared.requirements.ThreadPrefix.{ThreadPrefix}

-- The slot of each listed place.
abbrev pub place_slot : List ThreadPrefix → ℕ → Option ℕ
place_slot positions p = option_map (λ to. to.slot) (slice_get positions p)

-- The slot of each place's thread.
abbrev pub slots_of : SlotTable → ℕ → Option ℕ
slots_of slot_table = place_slot (arc_value slot_table.positions)

-- The slots number the threads: each place has one, below the count, and two places have the same
-- slot if and only if they are of the same thread.
pub record AreSlots (s : Trace) (slots : ℕ → Option ℕ) (count : ℕ) : Type 0 where
  pub each : (p t : ℕ) → OfThread s p t → (a : ℕ) × (slots p ≡ Some a) × (a < count)
  pub of_place : (p a : ℕ) → slots p ≡ Some a → (t : ℕ) × OfThread s p t
  pub apart : (p q a t : ℕ) → slots p ≡ Some a → slots q ≡ Some a → OfThread s p t → OfThread s q t
  pub alike : (p q a t : ℕ) → slots p ≡ Some a → OfThread s p t → OfThread s q t → slots q ≡ Some a

-- The slots are those of the trace's threads.
abbrev pub AreThreadSlots : Trace → SlotTable → Type 0
AreThreadSlots s threads = AreSlots s (slots_of threads) threads.count

-- The place has number `n` in the thread with slot `a`.
pub record HasSlotPosition (s : Trace) (slots : ℕ → Option ℕ) (p a n : ℕ) : Type 0 where
  pub slot : slots p ≡ Some a
  pub number : number_at s p ≡ Some n

-- The number is below the front of the slot's thread.
abbrev pub front_test : (ℕ → ℕ) → ℕ → ℕ → Bool
front_test front n a = nat_lt n (front a)

-- The set of places that the fronts include.
abbrev pub in_front : Trace → (ℕ → Option ℕ) → (ℕ → ℕ) → Places
in_front s slots front p =
    option_map_or (λ a. option_map_or (λ n. front_test front n a) (number_at s p) false)
    (slots p) false

-- Each place of the trace is listed with its slot and its number.
pub record AreSlotPlaces (s : Trace) (slots : ℕ → Option ℕ)
    (positions : List ThreadPrefix) : Type 0 where
  pub each : (p : ℕ) (to : ThreadPrefix) → slice_get positions p ≡ Some to →
      HasSlotPosition s slots p
      to.slot to.count
  pub all : length positions ≡ length s

-- The table lists each place of the trace with its slot and its number.
abbrev pub AreTablePlaces : Trace → SlotTable → Type 0
AreTablePlaces s threads =
    AreSlotPlaces s (slots_of threads) (arc_value threads.positions)

-- The set of listed places that the fronts include.
abbrev pub among : List ThreadPrefix → (ℕ → ℕ) → Places
among positions front p =
    option_map_or (λ to. front_test front to.count to.slot) (slice_get positions p) false

-- The set contains the first `count` places of the slot's thread.
abbrev pub HoldsFirst : Trace → (ℕ → Option ℕ) → Places → ℕ → ℕ → Type 0
HoldsFirst s slots set a count = (p n : ℕ) → HasSlotPosition s slots p a n → n < count →
    IsTrue (set p)

-- The slot's thread has at least `count` places.
abbrev pub HasFirst : Trace → (ℕ → Option ℕ) → ℕ → ℕ → Type 0
HasFirst s slots a count = (n : ℕ) → n < count → (p : ℕ) × HasSlotPosition s slots p a n

-- The thread has the places of the prefix.
abbrev pub HasPlaces : Trace → (ℕ → Option ℕ) → ThreadPrefix → Type 0
HasPlaces s slots prefix = HasFirst s slots prefix.slot prefix.count

-- The set contains the places of the prefix.
abbrev pub HoldsPlaces : Trace → (ℕ → Option ℕ) → ThreadPrefix → Places → Type 0
HoldsPlaces s slots prefix set = HoldsFirst s slots set prefix.slot prefix.count

-- Each thread has the places that its front counts.
abbrev pub HasFronts : Trace → (ℕ → Option ℕ) → (ℕ → ℕ) → Type 0
HasFronts s slots front = (a : ℕ) → HasFirst s slots a (front a)

-- The set contains all places that the fronts include.
abbrev pub HoldsFronts : Trace → (ℕ → Option ℕ) → (ℕ → ℕ) → Places → Type 0
HoldsFronts s slots front set = (a : ℕ) → HoldsFirst s slots set a (front a)
