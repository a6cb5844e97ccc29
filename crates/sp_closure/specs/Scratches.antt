-- What a scratch keeps between cycles.
use Rattle.std.specs.Prelude.{◌≡◌, ℕ, ◌+◌, [], ◌==◌, ◌&&◌, ◌⊎◌, nat_le, Bool, false, List, slice_get, Option, Some, None, unwrap_or, if◌then◌else◌}
use Rattle.trace_model.specs.Theory.Trace.{Trace}
use Rattle.trace_index.specs.Numbers.{number_at}
use Rattle.trace_model.specs.Theory.Closure.{Places, IsClosed}
use Rattle.sp_closure.specs.declared.scratch.ClosureScratch.{ClosureScratch}
use Rattle.fronts.specs.declared.overlay.Overlay.{Overlay}
use Rattle.fronts.specs.declared.propagation.Propagation.{Propagation}
use Rattle.sp_closure.specs.declared.base.Base.{Base}
use Rattle.fronts.specs.declared.requirements.ThreadPrefix.{ThreadPrefix}
use Rattle.fronts.specs.declared.requirements.Requirements.{Requirements}
use Rattle.fronts.specs.Slots.{slots_of, in_front, HoldsPlaces, HoldsFronts}
use Rattle.fronts.specs.Overlays.{front_of, done_of, last_of, HasRequirementRoom, IsEmptyFor}
use Rattle.fronts.specs.Members.{EndsBefore}
use Rattle.sp_closure.specs.Pointers.{NumberAt, IsFirstPlace}
use Rattle.fronts.specs.Requirements.{AreRequirements, item_at}
use Rattle.fronts.specs.Propagation.{PropagationState, IsFit, IsConsistent, sum_to}

-- A state with an empty worklist.
abbrev pub idle_state : Overlay → Overlay → PropagationState
idle_state under overlay =
    record {
      front = front_of under overlay;
      done = done_of under overlay;
      last = last_of under overlay;
      pending = [];
    }

-- The base is consistent, and each closed set that contains the prefix contains the base.
pub record IsBase (s : Trace) (d : Requirements) (none : Overlay) (prefix : ThreadPrefix)
    (base : Overlay) : Type 0 where
  pub consistent : IsConsistent (item_at d) (idle_state none base)
  pub least : (set : Places) → IsClosed s set →
      HoldsPlaces s (slots_of d.threads) prefix set →
      HoldsFronts s (slots_of d.threads) (front_of none base) set

-- If there is a prefix, the base is the closure of that prefix.
abbrev pub IsBaseOf : Trace → Requirements → Overlay → Option ThreadPrefix → Overlay → Type 0
IsBaseOf s d none of base = (prefix : ThreadPrefix) → of ≡ Some prefix → IsBase s d none prefix base

-- The same for each closed set that stops at a place of the dependency.
pub record IsBaseFor (s : Trace) (d : Requirements) (none : Overlay)
    (m : ℕ) (base : Overlay) : Type 0 where
  pub consistent : IsConsistent (item_at d) (idle_state none base)
  pub least : (set : Places) (q : ℕ) → IsClosed s set → NumberAt s q m → EndsBefore s set q →
      HoldsFronts s (slots_of d.threads) (front_of none base) set

-- A kept base is the closure of its prefix.
pub record IsKeptClosure (s : Trace) (d : Requirements) (none : Overlay)
    (kept_base : Base) : Type 0 where
  pub fits : IsFit s d none kept_base.propagation
  pub base : IsBaseOf s d none kept_base.of kept_base.propagation.overlay

-- The scratch is one over this trace with these requirements.
pub record IsScratch (s : Trace) (d : Requirements) (c : ClosureScratch) : Type 0 where
  pub requirements : AreRequirements s d
  pub none : IsEmptyFor d c.none
  pub fits : IsFit s d c.none c.base
  pub base : IsBaseOf s d c.none c.base_of c.base.overlay
  pub others : (i : ℕ) (b : Base) → slice_get c.others.items i ≡ Some b →
      IsKeptClosure s d c.none b
  pub room : HasRequirementRoom d c.upper.overlay

-- The present base of the scratch is the closure of the prefix.
abbrev pub IsOnPrefix : Trace → Requirements → ClosureScratch → ThreadPrefix → Type 0
IsOnPrefix s d c prefix = IsBase s d c.none prefix c.base.overlay

-- The number of places included by the overlay over the one under it.
abbrev pub count_in : Requirements → Overlay → Overlay → ℕ
count_in d under overlay = sum_to (front_of under overlay) d.threads.count

-- The number of places that the propagation includes.
abbrev pub total_over : Overlay → Propagation → Requirements → ℕ
total_over none w d = count_in d none w.overlay

-- The number of places in the present base.
abbrev pub base_total : Requirements → ClosureScratch → ℕ
base_total d c = total_over c.none c.base d

-- The fronts of the upper overlay over the base.
abbrev pub upper_front : ClosureScratch → ℕ → ℕ
upper_front c = front_of c.base.overlay c.upper.overlay

-- The number of places in the upper overlay over the base.
abbrev pub upper_total : Requirements → ClosureScratch → ℕ
upper_total d c = count_in d c.base.overlay c.upper.overlay

-- The set of these places.
abbrev pub upper_places : Trace → Requirements → ClosureScratch → Places
upper_places s d c = in_front s (slots_of d.threads) (upper_front c)

-- The old prefix is part of the new one.
abbrev pub leads_to : Option ThreadPrefix → ThreadPrefix → Bool
leads_to None prefix = false
leads_to (Some old) prefix = (old.slot == prefix.slot) && nat_le old.count prefix.count

-- Of this number of places, those that stay in the base for a prefix: all if the base leads to it,
-- else none.
abbrev pub kept_places : Option ThreadPrefix → ThreadPrefix → ℕ → ℕ
kept_places base_of prefix n = if leads_to base_of prefix then n else 0

-- The prefix of its thread that is before the place.
abbrev pub prefix_before : Trace → Requirements → ℕ → ThreadPrefix
prefix_before s d p = record {
  slot = unwrap_or (slots_of d.threads p) 0;
  count = unwrap_or (number_at s p) 0;
}

-- Of the present base, `k` places stay for a cycle whose first member is the dependency `m`.
pub record PlacesStay (s : Trace) (d : Requirements) (c : ClosureScratch) (m k : ℕ) : Type 0 where
  pub p : ℕ
  pub first : IsFirstPlace s m p
  pub count : k ≡ kept_places c.base_of (prefix_before s d p) (base_total d c)

-- One of the other bases has this prefix and this number of places.
pub record IsOther (d : Requirements) (c : ClosureScratch) (of : Option ThreadPrefix)
    (n : ℕ) : Type 0 where
  pub index : ℕ
  pub other : Base
  pub at : slice_get c.others.items index ≡ Some other
  pub prefix : of ≡ other.of
  pub places : n ≡ total_over c.none other.propagation d

-- A base that the scratch keeps has this prefix and this number of places, or there is no prefix.
abbrev pub HasBase : Requirements → ClosureScratch → Option ThreadPrefix → ℕ → Type 0
HasBase d c of n = (of ≡ None) ⊎ (((of ≡ c.base_of) × (n ≡ base_total d c)) ⊎ IsOther d c of n)

-- Of one of its bases, the scratch keeps `k` places for a cycle whose first member is the
-- dependency `m`.
pub record KeepsPlaces (s : Trace) (d : Requirements) (c : ClosureScratch) (m k : ℕ) : Type 0 where
  pub p : ℕ
  pub first : IsFirstPlace s m p
  pub of : Option ThreadPrefix
  pub places : ℕ
  pub has : HasBase d c of places
  pub count : k ≡ kept_places of (prefix_before s d p) places

-- The scratch keeps `k` places for a cycle of these numbers.
abbrev pub KeepsFor : Trace → Requirements → ClosureScratch → List ℕ → ℕ → Type 0
KeepsFor s d c numbers k = (m : ℕ) × (slice_get numbers 0 ≡ Some m) × KeepsPlaces s d c m k

-- All places were counted, except those that were kept.
abbrev pub CountsBut : (ℕ → Type 0) → ℕ → ℕ → ℕ → Type 0
CountsBut Kept before after all = (k : ℕ) × Kept k × (after + k ≡ before + all)

-- All bases are empty.
abbrev pub KeepsNothing : ClosureScratch → Type 0
KeepsNothing c = (c.base_of ≡ None) × (c.others.items ≡ [])
