-- The members of a cycle, each at a place of its dependency.
use Rattle.std.specs.Prelude.{◌≡◌, ◌≢◌, ℕ, ◌<◌, ◌≤◌, ◌-◌, ◌+◌, Bool, false, IsTrue, List, [], ◌∷◌, true, length, slice_get, slice_set, map, Option, Some, MatchOption}
use Rattle.std.specs.List.{Contains}
use Rattle.std.specs.List.Sorted.{IsStrictlyIncreasing}
use Rattle.trace_model.specs.Theory.Trace.{Trace, EarlierInThread}
use Rattle.trace_model.specs.Theory.Closure.{Places, IsClosed}
use Rattle.trace_index.specs.Numbers.{number_at}
use Rattle.fronts.specs.declared.requirements.ThreadPrefix.{ThreadPrefix}
use Rattle.fronts.specs.declared.members.Member.{Member}
use Rattle.fronts.specs.Slots.{HasSlotPosition, HasPlaces}

-- Each element has the property.
abbrev pub Each : {X : Type 0} → (X → Type 0) → List X → Type 0
Each P xs = (i : ℕ) (x : _) → slice_get xs i ≡ Some x → P x

-- The member is at one of its places, which are all of one thread.
pub record IsMember (s : Trace) (slots : ℕ → Option ℕ) (m : Member) : Type 0 where
  pub at : slice_get m.places m.entry ≡ Some m.place
  pub positions : HasSlotPosition s slots m.place m.slot m.number
  pub thread : (q : ℕ) → Contains m.places q → slots q ≡ Some m.slot

-- The set contains all places before this one in its thread, and not the place itself.
pub record EndsBefore (s : Trace) (set : Places) (q : ℕ) : Type 0 where
  pub before : (u : ℕ) → EarlierInThread s u q → IsTrue (set u)
  pub out : set q ≡ false

-- The set stops at one of the member's places.
abbrev pub Stops : Trace → Places → Member → Type 0
Stops s set m = (q : ℕ) × Contains m.places q × EndsBefore s set q

-- The set stops at one of the places.
abbrev pub StopsIn : Trace → List ℕ → Places → Type 0
StopsIn s places set = (q : ℕ) × Contains places q × EndsBefore s set q

-- The places of each member's dependency.
abbrev pub lists : List Member → List (List ℕ)
lists members = map (λ m. m.places) members

-- The member is at or before each of its places at which the set stops.
abbrev pub IsNotPast : Trace → Places → Member → Type 0
IsNotPast s set m = (q : ℕ) → Contains m.places q → EndsBefore s set q → m.place ≤ q

-- A closed set that stops at a place of each member, where no member is past that place.
pub record IsAhead (s : Trace) (members : List Member) (set : Places) : Type 0 where
  pub closed : IsClosed s set
  pub stops : Each (Stops s set) members
  pub not_past : Each (IsNotPast s set) members

-- The same member, perhaps at a later place.
pub record IsSameMember (old new : Member) : Type 0 where
  pub places : new.places ≡ old.places
  pub slot : new.slot ≡ old.slot

-- The same members; those of other slots did not move.
pub record AreMoved (slot : ℕ) (old new : List Member) : Type 0 where
  pub same_length : length new ≡ length old
  pub same : (i : ℕ) (x y : Member) → slice_get old i ≡ Some x → slice_get new i ≡ Some y →
      IsSameMember x y
  pub others : (i : ℕ) (x y : Member) → slice_get old i ≡ Some x → slice_get new i ≡ Some y →
      x.slot ≢ slot → x ≡ y

-- A member of the slot has a number of at most `count`.
abbrev pub IsWithinCount : ℕ → ℕ → Member → Type 0
IsWithinCount slot count m = m.slot ≡ slot → m.number ≤ count

-- A member of the slot has this number.
abbrev pub IsAtCount : ℕ → ℕ → Member → Type 0
IsAtCount slot count m = m.slot ≡ slot → m.number ≡ count

-- The total number of places after the members.
abbrev pub steps_left : List Member → ℕ
steps_left [] = 0
steps_left (m ∷ ms) = (length m.places - m.entry) + steps_left ms

-- The places after entry `from` and before entry `to` are among the first `count` of their thread.
abbrev pub ArePassed : Trace → ℕ → List ℕ → ℕ → ℕ → Type 0
ArePassed s count places from to = (i q n : ℕ) → from < i → i < to → slice_get places i ≡ Some q →
    number_at s q ≡ Some n → n < count

-- The member advanced to a later place, past places that are among the first `count` of their
-- thread; or all its later places are among these.
pub record Advances (s : Trace) (slots : ℕ → Option ℕ) (count : ℕ) (moves : Bool)
    (old new : Member) : Type 0 where
  pub same : IsSameMember old new
  pub is_member : IsMember s slots new
  pub next : IsTrue moves →
      (old.entry < new.entry) × ArePassed s count old.places old.entry new.entry
  pub last : moves ≡ false →
      ArePassed s count old.places old.entry (length old.places) × (new ≡ old)
  pub ascends : IsStrictlyIncreasing old.places

-- The members of the slot are right after the new prefix, which is not shorter.
pub record AreAdvanced (s : Trace) (slots : ℕ → Option ℕ) (prefix : ThreadPrefix)
    (members : List Member)
    (new : ThreadPrefix) : Type 0 where
  pub slot : new.slot ≡ prefix.slot
  pub more : prefix.count ≤ new.count
  pub has : HasPlaces s slots new
  pub at : Each (IsAtCount new.slot new.count) members

-- Member `k` changed as the relation says.
pub record HasMoved (Moves : Member → Member → Type 0) (old : List Member) (k : ℕ)
    (new : List Member) : Type 0 where
  pub x : Member
  pub y : Member
  pub at : slice_get old k ≡ Some x
  pub new_at : new ≡ slice_set old k y
  pub advances : Moves x y

-- Member `k` advanced to a place that has this number, or it did not advance.
abbrev pub MovesTo : (Bool → Member → Member → Type 0) → List Member → ℕ → List Member →
    Option ℕ → Type 0
MovesTo Moves old k new number = MatchOption number (HasMoved (Moves false) old k new)
    (λ n. (moved : HasMoved (Moves true) old k new) × (moved.y.number ≡ n))
