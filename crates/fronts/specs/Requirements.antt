-- The requirements of the places of a trace, as tables.
use Rattle.std.specs.Prelude.{◌≡◌, ℕ, suc, ◌<◌, ◌≤◌, ◌⊎◌, slice_get, Option, Some, MatchOption}
use Rattle.std.specs.Option.{option_and_then}
use Rattle.trace_model.specs.Theory.Trace.{Trace, EarlierInThread}
use Rattle.trace_model.specs.Theory.Held.{BeginsOn}
use Rattle.trace_model.specs.Theory.Lookups.{writer, release}
use Rattle.trace_model.specs.Theory.Reordering.{ForkOrJoin}
use Rattle.fronts.specs.declared.requirements.ThreadPrefix.{ThreadPrefix}
use Rattle.fronts.specs.declared.requirements.Section.{Section}
use Rattle.fronts.specs.declared.requirements.Requirement.{Requirement}
use Rattle.fronts.specs.declared.requirements.Requirement.TheVariants.{Reach, Begin}
use Rattle.fronts.specs.declared.requirements.Item.{Item}
use Rattle.fronts.specs.declared.requirements.Requirements.{Requirements}
use Rattle.fronts.specs.Slots.{slots_of, AreThreadSlots, AreTablePlaces, HasSlotPosition}

-- The slots of the places that begin sections: one slot for each lock.
pub record AreLocks (s : Trace) (locks : ℕ → Option ℕ) (count : ℕ) : Type 0 where
  pub each : (p k : ℕ) → BeginsOn s p k → (l : ℕ) × (locks p ≡ Some l) × (l < count)
  pub apart : (p q l k : ℕ) → locks p ≡ Some l → locks q ≡ Some l → BeginsOn s p k → BeginsOn s q k
  pub alike : (p q l k : ℕ) → locks p ≡ Some l → BeginsOn s p k → BeginsOn s q k → locks q ≡ Some l

-- A set that contains `q` has to contain `r`.
abbrev pub Needs : Trace → ℕ → ℕ → Type 0
Needs s q r = ForkOrJoin s r q ⊎ (writer s q ≡ Some r)

-- The prefix of its thread that ends with place `r`.
abbrev pub IsPrefixThrough : Trace → (ℕ → Option ℕ) → ThreadPrefix → ℕ → Type 0
IsPrefixThrough s slots prefix r = (n : ℕ) × HasSlotPosition s slots r prefix.slot n
    × (prefix.count ≡ suc n)

-- A prefix without places.
abbrev pub empty_prefix : ThreadPrefix
empty_prefix = record { slot = 0; count = 0 }

-- The section's end is the prefix that ends with its release, or empty if it has no release.
abbrev pub EndsSection : Trace → (ℕ → Option ℕ) → Section → Type 0
EndsSection s slots c = MatchOption (release s c.place) (c.end ≡ empty_prefix)
    (IsPrefixThrough s slots c.end)

-- A requirement of the place with number `n`.
abbrev pub item : ℕ → Requirement → Item
item n requirement = record { number = n; requirement = requirement }

-- The item at index `j` in the list of slot `a`.
abbrev pub item_at : Requirements → ℕ → ℕ → Option Item
item_at d a j = option_and_then (λ xs. slice_get xs.items j) (slice_get d.items.items a)

-- Each item is a requirement, and each requirement has an item.
pub record AreItems (s : Trace) (slots locks : ℕ → Option ℕ) (items : ℕ → ℕ →
    Option Item) : Type 0 where
  pub ascend : (a i j : ℕ) (x y : Item) → i ≤ j → items a i ≡ Some x → items a j ≡ Some y →
      x.number ≤ y.number
  pub reach : (a j n : ℕ) (prefix : ThreadPrefix) → items a j ≡ Some (item n (Reach prefix)) →
      (q : ℕ) × (r : ℕ) × HasSlotPosition s slots q a n × Needs s q r
      × IsPrefixThrough s slots prefix r
  pub begin : (a j n l : ℕ) (c : Section) → items a j ≡ Some (item n (Begin l c)) →
      (k : ℕ) × HasSlotPosition s slots c.place a n × BeginsOn s c.place k
      × (locks c.place ≡ Some l)
      × EndsSection s slots c
  pub needs : (q r a n : ℕ) → Needs s q r → HasSlotPosition s slots q a n → EarlierInThread s r q
      ⊎ ((j : ℕ) × (m : ℕ) × (prefix : ThreadPrefix) × (i : ℕ)
      × (items a j ≡ Some (item m (Reach prefix)))
      × (m ≤ n) × HasSlotPosition s slots r prefix.slot i × (i < prefix.count))
  pub begins : (q k a n : ℕ) → BeginsOn s q k → HasSlotPosition s slots q a n →
      (j : ℕ) × (l : ℕ) × (c : Section) × (items a j ≡ Some (item n (Begin l c))) × (c.place ≡ q)

-- The tables are those of the trace. The lock slots are those in the items.
pub record AreRequirements (s : Trace) (d : Requirements) : Type 0 where
  pub slots : AreThreadSlots s d.threads
  pub lock_slots : ℕ → Option ℕ
  pub locks : AreLocks s lock_slots d.lock_count
  pub positions : AreTablePlaces s d.threads
  pub items : AreItems s (slots_of d.threads) lock_slots (item_at d)
