-- Timestamps: vector clocks of the places of each dependency (PLDI 2023).
use Rattle.std.specs.Prelude.{◌≡◌, ℕ, ◌+◌, ◌<◌, ◌≤◌, ◌++◌, ◌⊎◌, Bool, List, length, Option, Some, None, slice_get, slice_set, MatchOption}
use Rattle.std.specs.Option.{ForSome}
use Rattle.trace_model.specs.Theory.Trace.{Trace}
use Rattle.trace_model.specs.Theory.Closure.{Places, IsClosed}
use Rattle.fronts.specs.declared.requirements.ThreadPrefix.{ThreadPrefix}
use Rattle.sp_closure.specs.declared.timelines.Timestamp.{Timestamp}
use Rattle.sp_closure.specs.declared.timelines.Timeline.{Timeline}
use Rattle.sp_closure.specs.declared.timelines.Timestamps.{Timestamps}
use Rattle.sp_closure.specs.declared.timelines.Pointer.{Pointer}
use Rattle.fronts.specs.Slots.{HasSlotPosition, HasPlaces, HoldsFirst, HoldsPlaces, AreSlots}
use Rattle.fronts.specs.Members.{EndsBefore}
use Rattle.sp_closure.specs.Pointers.{NumberAt}
use Rattle.sp_closure.specs.Reaching.{AllStop}

-- The timestamp is entry `k` of the timeline.
pub record HasEntry (entries : List Timestamp) (timeline : Timeline) (k : ℕ)
    (x : Timestamp) : Type 0 where
  pub within : k < timeline.count
  pub at : slice_get entries (timeline.first + k) ≡ Some x

-- The timeline has no entry from `k` on.
abbrev pub HasNoEntryFrom : List Timestamp → Timeline → ℕ → Type 0
HasNoEntryFrom entries timeline k = (i : ℕ) (x : Timestamp) → k ≤ i →
    HasEntry entries timeline i x → ⊥

-- The place is entry `k` of the timeline.
pub record IsEntryAt (s : Trace) (slots : ℕ → Option ℕ) (entries : List Timestamp)
    (timeline : Timeline) (k q : ℕ) : Type 0 where
  pub timestamp : Timestamp
  pub at : HasEntry entries timeline k timestamp
  pub positions : HasSlotPosition s slots q timestamp.prefix.slot timestamp.prefix.count

-- The places of the one prefix are among those of the other one, which is of the same thread.
pub record IsWithinPrefix (part whole : ThreadPrefix) : Type 0 where
  pub slot : part.slot ≡ whole.slot
  pub count : part.count ≤ whole.count

-- The timeline has the places of the dependency in order.
pub record IsTimeline (s : Trace) (slots : ℕ → Option ℕ) (entries : List Timestamp) (m : ℕ)
    (timeline : Timeline) : Type 0 where
  pub inside : timeline.first + timeline.count ≤ length entries
  pub places : (q : ℕ) → NumberAt s q m → (k : ℕ) × IsEntryAt s slots entries timeline k q
  pub ascend : (i k : ℕ) (x y : Timestamp) → i ≤ k → HasEntry entries timeline i x →
      HasEntry entries timeline k y → IsWithinPrefix x.prefix y.prefix

-- The clock of the timestamp has this number of places of the slot.
pub record ClockCounts (threads : ℕ) (fronts : List ℕ) (x : Timestamp)
    (slot front : ℕ) : Type 0 where
  pub clock : ℕ
  pub is : x.clock ≡ Some clock
  pub within : slot < threads
  pub at : slice_get fronts (clock + slot) ≡ Some front

-- Each closed set that contains the prefix contains, of each slot, at least the counted places.
abbrev pub IsLowerBound : Trace → (ℕ → Option ℕ) → ThreadPrefix → (ℕ → ℕ → Type 0) → Type 0
IsLowerBound s slots prefix counted = (set : Places) → IsClosed s set →
    HoldsPlaces s slots prefix set →
    (a n : ℕ) → counted a n → HoldsFirst s slots set a n

-- The thread has the places before the timestamp's, and if its clock is computed, it counts places
-- of their closure.
pub record IsTimestamp (s : Trace) (slots : ℕ → Option ℕ) (threads : ℕ) (fronts : List ℕ)
    (x : Timestamp) : Type 0 where
  pub reach : HasPlaces s slots x.prefix
  pub inside : ForSome x.clock (λ clock. clock + threads ≤ length fronts)
  pub bound : IsLowerBound s slots x.prefix (ClockCounts threads fronts x)

-- The dependency has this timeline.
abbrev pub HasTimeline : Timestamps → ℕ → Timeline → Type 0
HasTimeline timestamps m timeline = slice_get timestamps.timelines.items m ≡ Some (Some timeline)

-- The timelines are those of dependencies, and the timestamps those of their places.
pub record AreTimelines (s : Trace) (slots : ℕ → Option ℕ) (timestamps : Timestamps) : Type 0 where
  pub each : (m : ℕ) (timeline : Timeline) → HasTimeline timestamps m timeline →
      IsTimeline s slots timestamps.entries.items m timeline
  pub stamped : (i : ℕ) (x : Timestamp) → slice_get timestamps.entries.items i ≡ Some x →
      IsTimestamp s slots timestamps.threads timestamps.fronts.items x

-- The timelines are those of the trace's dependencies, by number.
pub record AreTimestamps (s : Trace) (timestamps : Timestamps) : Type 0 where
  pub slots : ℕ → Option ℕ
  pub count : ℕ
  pub known : AreSlots s slots count
  pub are : AreTimelines s slots timestamps

-- Each place of the pointer's dependency at which the set stops is an entry at or after the
-- pointer's.
abbrev pub StopsFrom : Trace → (ℕ → Option ℕ) → Places → List Timestamp → Timeline → Pointer →
    Type 0
StopsFrom s slots set entries timeline p = (q : ℕ) → NumberAt s q p.number → EndsBefore s set q →
    (k : ℕ) × (p.entry ≤ k) × IsEntryAt s slots entries timeline k q

-- The set stops at no place of the dependency.
abbrev pub StopsNowhere : Trace → Places → ℕ → Type 0
StopsNowhere s set m = (q : ℕ) → NumberAt s q m → EndsBefore s set q → ⊥

-- The same for a timeline that is looked up.
abbrev pub StopsFromAt : (s : Trace) → (ℕ → Option ℕ) → Timestamps → Places → Pointer → Type 0
StopsFromAt s slots timestamps set p = (timeline : Timeline) →
    HasTimeline timestamps p.number timeline →
    StopsFrom s slots set timestamps.entries.items timeline p

-- The property holds of each member at its entry.
pub record AreFrom (From : Pointer → Type 0) (numbers entries : List ℕ) : Type 0 where
  pub each : (j m e : ℕ) → slice_get numbers j ≡ Some m → slice_get entries j ≡ Some e →
      From (record { number = m; entry = e })

-- A closed set that stops at a place of each member stops at none before its entry.
abbrev pub AllFrom : Timestamps → List ℕ → List ℕ → Type 0
AllFrom timestamps numbers entries = (s : Trace) (are : AreTimestamps s timestamps) (set : Places) →
    IsClosed s set → AllStop s numbers set →
    AreFrom (StopsFromAt s are.slots timestamps set) numbers entries

-- No closed set stops at a place of each member.
abbrev pub NoneStops : Timestamps → List ℕ → Type 0
NoneStops timestamps numbers = (s : Trace) → AreTimestamps s timestamps →
    (set : Places) → IsClosed s set →
    AllStop s numbers set → ⊥

-- The same for the resulting entries; if there is no result, no closed set stops at each member.
abbrev pub StayFrom : Timestamps → List ℕ → List ℕ → Option Bool → Type 0
StayFrom timestamps numbers entries went =
    MatchOption went (NoneStops timestamps numbers) (λ any. AllFrom timestamps numbers entries)

-- The timestamp is that of the pointer's place.
pub record HasEntryAt (timestamps : Timestamps) (at : Pointer) (x : Timestamp) : Type 0 where
  pub timeline : Timeline
  pub found : HasTimeline timestamps at.number timeline
  pub entry : HasEntry timestamps.entries.items timeline at.entry x

-- The set contains the places that the clock of the timestamp counts.
abbrev pub HoldsCounted : Trace → (ℕ → Option ℕ) → Timestamps → Timestamp → Places → Type 0
HoldsCounted s slots timestamps x set = (a n : ℕ) →
    ClockCounts timestamps.threads timestamps.fronts.items x a n → HoldsFirst s slots set a n

-- The same for each closed set that stops at a place of each member.
abbrev pub AllHold : Timestamps → List ℕ → Timestamp → Type 0
AllHold timestamps numbers x = (s : Trace) (are : AreTimestamps s timestamps) (set : Places) →
    IsClosed s set → AllStop s numbers set → HoldsCounted s are.slots timestamps x set

-- A set that contains what the timestamp counts, and that stops at no place of the pointer before
-- its entry, stops at none before its new entry.
abbrev pub Moves : Timestamps → Timestamp → Pointer → Option ℕ → Type 0
Moves timestamps by of entry = (s : Trace) (are : AreTimestamps s timestamps) (set : Places) →
    HoldsCounted s are.slots timestamps by set → StopsFromAt s are.slots timestamps set of →
    MatchOption entry (StopsNowhere s set of.number)
    (λ e. StopsFromAt s are.slots timestamps set (record { number = of.number; entry = e }))

-- The timestamp of a place with this prefix before it, without a clock.
pub record IsFresh (s : Trace) (slots : ℕ → Option ℕ) (x : Timestamp) : Type 0 where
  pub reach : HasPlaces s slots x.prefix
  pub clock : x.clock ≡ None

-- The entries have some more at their end, and the timeline is that of the dependency.
pub record AddsTimeline (s : Trace) (slots : ℕ → Option ℕ) (m : ℕ) (old new : List Timestamp)
    (timeline : Option Timeline) : Type 0 where
  pub more : List Timestamp
  pub added : new ≡ old ++ more
  pub fresh : (k : ℕ) (x : Timestamp) → slice_get more k ≡ Some x → IsFresh s slots x
  pub is : ForSome timeline (IsTimeline s slots new m)

-- The fronts have some more at their end, one of each slot.
pub record AddsFronts (old : List ℕ) (front : ℕ → ℕ) (count : ℕ) (new : List ℕ) : Type 0 where
  pub more : List ℕ
  pub added : new ≡ old ++ more
  pub all : length more ≡ count
  pub exact : (a n : ℕ) → slice_get more a ≡ Some n → n ≡ front a

-- The entry has this prefix before it, and there is room for its clock.
pub record HasPrefix (timestamps : Timestamps) (entry : ℕ) (prefix : ThreadPrefix) : Type 0 where
  pub timestamp : Timestamp
  pub at : slice_get timestamps.entries.items entry ≡ Some timestamp
  pub is : prefix ≡ timestamp.prefix
  pub room : length timestamps.fronts.items ≤ 4194304

-- The entry has a clock of these fronts.
pub record Puts (old : Timestamps) (entry : ℕ) (front : ℕ → ℕ) (new : Timestamps) : Type 0 where
  pub timestamp : Timestamp
  pub at : slice_get old.entries.items entry ≡ Some timestamp
  pub threads : new.threads ≡ old.threads
  pub timelines : new.timelines ≡ old.timelines
  pub put : new.entries.items ≡ slice_set old.entries.items entry
      (record { prefix = timestamp.prefix; clock = Some (length old.fronts.items) })
  pub fronts : AddsFronts old.fronts.items front old.threads new.fronts.items

-- No entry has changed.
pub record Stays (old new : Timestamps) : Type 0 where
  pub threads : new.threads ≡ old.threads
  pub timelines : new.timelines ≡ old.timelines
  pub entries : new.entries ≡ old.entries
  pub fronts : new.fronts.items ≡ old.fronts.items

-- The one or the other.
abbrev pub MayPut : Timestamps → ℕ → (ℕ → ℕ) → Timestamps → Type 0
MayPut old entry front new = Stays old new ⊎ Puts old entry front new
