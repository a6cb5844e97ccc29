-- The tables while they are built, place by place.
use Rattle.std.specs.Prelude.{◌≡◌, ℕ, ◌≤◌, List, length, slice_get, Option, Some, vec_capacity}
use Rattle.trace_model.specs.Theory.Trace.{Trace}
use Rattle.fronts.specs.declared.requirements.ThreadPrefix.{ThreadPrefix}
use Rattle.fronts.specs.declared.requirements.Tables.{Tables}
use Rattle.fronts.specs.Slots.{HasSlotPosition}
use Rattle.fronts.specs.Firsts.{thread_slot_at, lock_slot_at, threads_below, locks_below}
use Rattle.fronts.specs.Pushing.{trace_with_slots, AreAllBuilt}

-- Each place is listed with the slot of its thread and its number.
abbrev pub AreSlotPositions : Trace → List ThreadPrefix → Type 0
AreSlotPositions s positions = (p : ℕ) (to : ThreadPrefix) → slice_get positions p ≡ Some to →
    HasSlotPosition s (thread_slot_at s) p to.slot to.count

-- Each place is listed with the slot of the lock on which a section begins there, if one does.
abbrev pub AreLockSlots : Trace → List (Option ℕ) → Type 0
AreLockSlots s locks = (p : ℕ) (slot : Option ℕ) → slice_get locks p ≡ Some slot →
    lock_slot_at s p ≡ slot

-- The tables of the places below `p`, with room for the places of the trace.
pub record AreRequirementTables (s : Trace) (p : ℕ) (tables : Tables) : Type 0 where
  pub positions : AreSlotPositions s tables.positions.items
  pub positions_length : length tables.positions.items ≡ p
  pub positions_room : length s ≤ vec_capacity tables.positions
  pub locks : AreLockSlots s tables.locks.items
  pub locks_length : length tables.locks.items ≡ p
  pub locks_room : length s ≤ vec_capacity tables.locks
  pub lock_count : tables.lock_count ≡ locks_below s p
  pub thread_count : length tables.items.items ≡ threads_below s p
  pub built : AreAllBuilt (trace_with_slots s) p tables.items.items
