-- The items that a place adds to the list of its thread.
use Rattle.std.specs.Prelude.{◌≡◌, ℕ, ◌<◌, ◌≤◌, ◌⊎◌, List, [], ◌∷◌, ◌++◌, slice_get, Option, Some, None, MatchOption}
use Rattle.std.specs.List.{Contains}
use Rattle.std.specs.Global.{Global}
use Rattle.std.specs.Prelude.{Vec}
use Rattle.trace_model.specs.Theory.Trace.{Trace, Does, OfThread, EarlierInThread}
use Rattle.trace_model.specs.declared.traces.event.Op.TheVariants.{Fork, Join}
use Rattle.trace_model.specs.Theory.Held.{BeginsOn}
use Rattle.trace_model.specs.Theory.Lookups.{writer}
use Rattle.trace_index.specs.Numbers.{number_at}
use Rattle.fronts.specs.declared.requirements.ThreadPrefix.{ThreadPrefix}
use Rattle.fronts.specs.declared.requirements.Section.{Section}
use Rattle.fronts.specs.declared.requirements.Requirement.{Requirement}
use Rattle.fronts.specs.declared.requirements.Requirement.TheVariants.{Reach, Begin}
use Rattle.fronts.specs.declared.requirements.Item.{Item}
use Rattle.fronts.specs.Slots.{HasSlotPosition}
use Rattle.fronts.specs.Firsts.{thread_slot_at, lock_slot_at}
use Rattle.fronts.specs.Requirements.{Needs, IsPrefixThrough, EndsSection, item}

-- A trace, with the slots of its threads and of its locks.
pub record SlottedTrace : Type 0 where
  pub trace : Trace
  pub slots : ℕ → Option ℕ
  pub locks : ℕ → Option ℕ

-- A trace with the slots that its first places give.
abbrev pub trace_with_slots : Trace → SlottedTrace
trace_with_slots s = record { trace = s; slots = thread_slot_at s; locks = lock_slot_at s }

-- The item of a requirement, if there is one.
abbrev pub requirement_items : ℕ → Option Requirement → List Item
requirement_items n None = []
requirement_items n (Some requirement) = item n requirement ∷ []

-- The list has an item that requires the prefix, or a longer prefix of the same thread.
abbrev pub IsRequired : ThreadPrefix → List Item → Type 0
IsRequired prefix xs = (n : ℕ) × (known : ThreadPrefix) × Contains xs (item n (Reach known))
    × (known.slot ≡ prefix.slot) × (prefix.count ≤ known.count)

-- The place at `position` needs no item for the prefix: the prefix is before it in its own thread,
-- or is required.
abbrev pub IsRedundant : ThreadPrefix → ThreadPrefix → List Item → Type 0
IsRedundant position prefix xs = ((prefix.slot ≡ position.slot) × (prefix.count ≤ position.count))
    ⊎ IsRequired prefix xs

-- The old items, followed by the item for the prefix, unless that is redundant.
abbrev pub AddsPrefix : ThreadPrefix → ThreadPrefix → List Item → List Item → Type 0
AddsPrefix position prefix old new = (new ≡ old ++ item position.count (Reach prefix) ∷ [])
    ⊎ ((new ≡ old) × IsRedundant position prefix old)

-- The same for the prefix that ends with the place `o`, if there is one.
abbrev pub AddsReach : Trace → (ℕ → Option ℕ) → ThreadPrefix → Option ℕ → List Item → List Item →
    Type 0
AddsReach s slots position o old new = MatchOption o (new ≡ old) (λ p. (prefix : ThreadPrefix)
    × IsPrefixThrough s slots prefix p × AddsPrefix position prefix old new)

-- The place `q` needs the place `o`, if there is one: the fork of its thread if `q` is the thread's
-- first place.
pub record IsStart (s : Trace) (q : ℕ) (o : Option ℕ) : Type 0 where
  pub true_need : (r : ℕ) → o ≡ Some r → Needs s q r
  pub fork : (t r : ℕ) → number_at s q ≡ Some 0 → OfThread s q t → Does s r (Fork t) → o ≡ Some r

-- The writer of `q`, or the fork of the thread that `q` joins.
pub record IsFirstNeed (s : Trace) (q : ℕ) (o : Option ℕ) : Type 0 where
  pub true_need : (r : ℕ) → o ≡ Some r → Needs s q r
  pub written : (r : ℕ) → writer s q ≡ Some r → o ≡ Some r
  pub fork : (c r : ℕ) → Does s q (Join c) → Does s r (Fork c) → o ≡ Some r

-- The last place of the thread that `q` joins.
pub record IsLastNeed (s : Trace) (q : ℕ) (o : Option ℕ) : Type 0 where
  pub true_need : (r : ℕ) → o ≡ Some r → Needs s q r
  pub joined : (c r : ℕ) → Does s q (Join c) → OfThread s r c → (p : ℕ) × (o ≡ Some p)
      × OfThread s p c × (r ≤ p)

-- The section that `q` begins.
pub record IsBegin (v : SlottedTrace) (q : ℕ) (o : Option Requirement) : Type 0 where
  pub true_need : (requirement : Requirement) → o ≡ Some requirement →
      (l : ℕ) × (c : Section) × (k : ℕ) ×
      (requirement ≡ Begin l c) × (c.place ≡ q) × BeginsOn v.trace q k × (v.locks q ≡ Some l)
      × EndsSection v.trace v.slots c
  pub begun : (k : ℕ) → BeginsOn v.trace q k → (requirement : Requirement) × (o ≡ Some requirement)

-- The place `q` needs no place but those before it in its thread.
pub record NeedsNone (s : Trace) (q : ℕ) : Type 0 where
  pub start : IsStart s q None
  pub first : IsFirstNeed s q None
  pub last : IsLastNeed s q None

-- A requirement of the place `q`, which has number `n`.
pub record IsRequirement (v : SlottedTrace) (q n : ℕ) (i : Item) : Type 0 where
  pub number : i.number ≡ n
  pub reach : (prefix : ThreadPrefix) → i.requirement ≡ Reach prefix → (r : ℕ) × Needs v.trace q r
      × IsPrefixThrough v.trace v.slots prefix r
  pub begin : (l : ℕ) (c : Section) → i.requirement ≡ Begin l c → (k : ℕ) × (c.place ≡ q)
      × BeginsOn v.trace q k × (v.locks q ≡ Some l) × EndsSection v.trace v.slots c

-- The place `q` is not the first of its thread, and `r` is the thread's fork.
abbrev pub IsForkLater : Trace → ℕ → ℕ → ℕ → Type 0
IsForkLater s q n r = (n ≡ 0 → ⊥) × (t : ℕ) × OfThread s q t × Does s r (Fork t)

-- An item with number at most `n` requires a prefix that contains `r`.
abbrev pub IsReached : Trace → (ℕ → Option ℕ) → ℕ → ℕ → List Item → Type 0
IsReached s slots n r xs = (k : ℕ) × (prefix : ThreadPrefix) × (m : ℕ)
    × Contains xs (item k (Reach prefix)) × (k ≤ n)
    × HasSlotPosition s slots r prefix.slot m × (m < prefix.count)

-- Thread order includes `r` before the place `q`, which has number `n`, or an item requires it.
abbrev pub IsIncluded : Trace → (ℕ → Option ℕ) → ℕ → ℕ → ℕ → List Item → Type 0
IsIncluded s slots q n r xs = EarlierInThread s r q ⊎ IsReached s slots n r xs

-- The items are requirements of places with numbers up to `n`.
abbrev pub AreUpTo : ℕ → List Item → Type 0
AreUpTo n xs = (i : Item) → Contains xs i → i.number ≤ n

-- An item with number `n` is the section that begins at `q`.
abbrev pub IsBegun : ℕ → ℕ → List Item → Type 0
IsBegun q n xs = (l : ℕ) × (c : Section) × Contains xs (item n (Begin l c)) × (c.place ≡ q)

-- The requirements of the place `q`, which has number `n`, after the items `old` of its thread.
pub record AreRequirementsAt (v : SlottedTrace) (q n : ℕ) (old xs : List Item) : Type 0 where
  pub only : (i : Item) → Contains xs i → IsRequirement v q n i
  pub needs : AreUpTo n old → (r : ℕ) → Needs v.trace q r → IsForkLater v.trace q n r
      ⊎ IsIncluded v.trace v.slots q n r (old ++ xs)
  pub begins : (k : ℕ) → BeginsOn v.trace q k → IsBegun q n xs

-- The old items, followed by the requirements of the place `q`.
abbrev pub AddsRequirements : SlottedTrace → ℕ → List Item → List Item → Type 0
AddsRequirements v q old new = (n : ℕ) × (added : List Item) × (number_at v.trace q ≡ Some n)
    × (new ≡ old ++ added) × AreRequirementsAt v q n old added

-- The items of the slot's places below `p`, in the order of the places.
pub record AreBuilt (v : SlottedTrace) (p a : ℕ) (xs : List Item) : Type 0 where
  pub only : (i : Item) → Contains xs i →
      (q : ℕ) × (q < p) × HasSlotPosition v.trace v.slots q a i.number
      × IsRequirement v q i.number i
  pub ascend : (j k : ℕ) (x y : Item) → j ≤ k → slice_get xs j ≡ Some x → slice_get xs k ≡ Some y →
      x.number ≤ y.number
  pub needs : (q r n : ℕ) → q < p → HasSlotPosition v.trace v.slots q a n → Needs v.trace q r →
      IsForkLater v.trace q n r ⊎ IsIncluded v.trace v.slots q n r xs
  pub begins : (q k n : ℕ) → q < p → HasSlotPosition v.trace v.slots q a n → BeginsOn v.trace q k →
      IsBegun q n xs

-- The same for the list of each slot.
abbrev pub AreAllBuilt : SlottedTrace → ℕ → List (Vec Item Global) → Type 0
AreAllBuilt v p lists = (a : ℕ) (xs : Vec Item Global) → slice_get lists a ≡ Some xs →
    AreBuilt v p a xs.items
