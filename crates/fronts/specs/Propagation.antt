-- The invariants of a propagation.
use Rattle.std.specs.Prelude.{◌≡◌, ◌≢◌, ℕ, zero, suc, ◌+◌, ◌<◌, ◌≤◌, ◌⊎◌, List, length, slice_get, Option, Some, MatchOption}
use Rattle.std.specs.List.{Contains}
use Rattle.trace_model.specs.Theory.Trace.{Trace}
use Rattle.trace_model.specs.Theory.Closure.{Places}
use Rattle.fronts.specs.declared.requirements.ThreadPrefix.{ThreadPrefix}
use Rattle.fronts.specs.declared.requirements.Section.{Section}
use Rattle.fronts.specs.declared.requirements.Requirement.TheVariants.{Reach, Begin}
use Rattle.fronts.specs.declared.requirements.Item.{Item}
use Rattle.fronts.specs.declared.requirements.Requirements.{Requirements}
use Rattle.fronts.specs.declared.overlay.Overlay.{Overlay}
use Rattle.fronts.specs.declared.propagation.Propagation.{Propagation}
use Rattle.fronts.specs.declared.members.Member.{Member}
use Rattle.fronts.specs.Slots.{slots_of, HasFronts, HoldsFronts}
use Rattle.fronts.specs.Overlays.{front_of, done_of, last_of, Changes, HasRequirementRoom}
use Rattle.fronts.specs.Requirements.{item}
use Rattle.fronts.specs.Members.{Each, IsMember, IsAhead}

-- The fronts, the number of processed requirements, the last sections, and the worklist.
pub record PropagationState : Type 0 where
  pub front : ℕ → ℕ
  pub done : ℕ → ℕ
  pub last : ℕ → Option Section
  pub pending : List ℕ

-- The state of a propagation over the overlay under it.
abbrev pub propagation_state : Overlay → Propagation → PropagationState
propagation_state under w = record {
  front = front_of under w.overlay;
  done = done_of under w.overlay;
  last = last_of under w.overlay;
  pending = w.pending.items;
}

-- The sum of the first `n` values.
abbrev pub sum_to : (ℕ → ℕ) → ℕ → ℕ
sum_to f zero = 0
sum_to f (suc n) = sum_to f n + f n

-- The propagation has memory for all threads and locks, and its fronts are within the trace.
pub record IsFit (s : Trace) (d : Requirements) (under : Overlay) (w : Propagation) : Type 0 where
  pub room : HasRequirementRoom d w.overlay
  pub fronts : HasFronts s (slots_of d.threads) (front_of under w.overlay)

-- The loop invariant: each processed requirement is of an included place and is met, and each
-- unprocessed requirement of an included place is of a thread in the worklist.
pub record IsConsistent (items : ℕ → ℕ → Option Item) (x : PropagationState) : Type 0 where
  pub inside : (a j : ℕ) (i : Item) → items a j ≡ Some i → j < x.done a → i.number < x.front a
  pub reached : (a j n : ℕ) (prefix : ThreadPrefix) → items a j ≡ Some (item n (Reach prefix))
      → j < x.done a →
      prefix.count ≤ x.front prefix.slot
  pub lasts : (l : ℕ) (c : Section) → x.last l ≡ Some c →
      (a : ℕ) × (j : ℕ) × (n : ℕ) × (j < x.done a) × (items a j ≡ Some (item n (Begin l c)))
  pub ended : (a j n l : ℕ) (c : Section) → items a j ≡ Some (item n (Begin l c)) → j < x.done a →
      (d : Section) × (x.last l ≡ Some d)
      × ((c ≡ d) ⊎ ((c.place < d.place) × (c.end.count ≤ x.front c.end.slot)))
  pub queued : (a j : ℕ) (i : Item) → items a j ≡ Some i → i.number < x.front a → (j < x.done a)
      ⊎ Contains x.pending a

-- The slots in the worklist are below the count.
abbrev pub AreKnownSlots : ℕ → List ℕ → Type 0
AreKnownSlots count pending = (a : ℕ) → Contains pending a → a < count

-- Fronts grow. A thread whose front moved is in the worklist, and no requirement is processed.
pub record Grows (count : ℕ) (old new : PropagationState) : Type 0 where
  pub grows : (a : ℕ) → old.front a ≤ new.front a
  pub enqueued : (a : ℕ) → (new.front a ≡ old.front a) ⊎ Contains new.pending a
  pub kept : (a : ℕ) → Contains old.pending a → Contains new.pending a
  pub known : AreKnownSlots count old.pending → AreKnownSlots count new.pending
  pub done : (a : ℕ) → new.done a ≡ old.done a
  pub more : length new.pending ≤ length old.pending + 1

-- Fronts grow to include the prefix, and the last sections are unchanged.
pub record Raises (count : ℕ) (prefix : ThreadPrefix) (old new : PropagationState) : Type 0 where
  pub upto : prefix.count ≤ new.front prefix.slot
  pub growth : Grows count old new
  pub last : (l : ℕ) → new.last l ≡ old.last l

-- After the begin of section `c`: the lock's last section is the later one, and the earlier one has
-- ended.
abbrev pub HasBegun : Option Section → Section → PropagationState → ℕ → Type 0
HasBegun old c y l = MatchOption old (y.last l ≡ Some c) (λ d.
    ((d.place < c.place) × (y.last l ≡ Some c) × (d.end.count ≤ y.front d.end.slot))
    ⊎ ((c.place < d.place) × (y.last l ≡ Some d) × (c.end.count ≤ y.front c.end.slot))
    ⊎ ((c.place ≡ d.place) × (y.last l ≡ Some d)))

-- The section begins, and fronts grow.
pub record BeginsSection (count l : ℕ) (c : Section) (old new : PropagationState) : Type 0 where
  pub begun : HasBegun (old.last l) c new l
  pub others : (m : ℕ) → m ≢ l → new.last m ≡ old.last m
  pub growth : Grows count old new

-- One requirement of the slot is processed, and fronts grow. The state stays consistent.
pub record Meets (items : ℕ → ℕ →
    Option Item) (count a : ℕ) (old new : PropagationState) : Type 0 where
  pub consistent : IsConsistent items new
  pub known : AreKnownSlots count old.pending → AreKnownSlots count new.pending
  pub grows : (b : ℕ) → old.front b ≤ new.front b
  pub done : Changes old.done a (old.done a + 1) new.done
  pub pending : length new.pending ≤ length old.pending + 1

-- A set that is ahead of the members and contains all included places.
pub record IsBound (s : Trace) (slots : ℕ → Option ℕ) (front : ℕ → ℕ) (members : List Member)
    (set : Places) : Type 0 where
  pub ahead : IsAhead s members set
  pub holds : HoldsFronts s slots front set

-- The member is the first place after the front of its thread.
abbrev pub IsAtFront : (ℕ → ℕ) → Member → Type 0
IsAtFront front m = m.number ≡ front m.slot

-- The members are members, each the first place after the front of its thread.
pub record AreAtFront (s : Trace) (slots : ℕ → Option ℕ) (front : ℕ → ℕ)
    (members : List Member) : Type 0 where
  pub each : Each (IsMember s slots) members
  pub at : Each (IsAtFront front) members

-- The same, except that members of the prefix's slot may be inside the prefix.
pub record AreUpTo (s : Trace) (slots : ℕ → Option ℕ) (front : ℕ → ℕ) (prefix : ThreadPrefix)
    (members : List Member) : Type 0 where
  pub each : Each (IsMember s slots) members
  pub others : Each (λ m. m.slot ≢ prefix.slot → m.number ≡ front m.slot) members
  pub here : Each (λ m. m.slot ≡ prefix.slot → m.number ≤ prefix.count) members

-- The same members, perhaps at later places.
pub record AreSame (old new : List Member) : Type 0 where
  pub same_length : length new ≡ length old
  pub places : (i : ℕ) (x y : Member) → slice_get old i ≡ Some x → slice_get new i ≡ Some y →
      y.places ≡ x.places
