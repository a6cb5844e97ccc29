-- The indices of entries by place.
use Rattle.std.specs.Prelude.{◌≡◌, ℕ, ◌%◌, ◌⊎◌, List, slice_get, Some}
use Rattle.explain.specs.declared.entry_table.EntryTable.{EntryTable}
use Rattle.explain.specs.Tables.{position_of_key}

-- The slot of a place.
abbrev pub slot_of : ℕ → ℕ
slot_of p = p % 1024

-- The slot of place p, if the table has slots, has the index of an entry whose place has this slot.
abbrev pub IsSlotTaken : EntryTable → List ℕ → ℕ → Type 0
IsSlotTaken table places p = (i : ℕ) → slice_get table.slots.items (slot_of p) ≡ Some i →
    (q : ℕ) × (slice_get places i ≡ Some q) × (slot_of q ≡ slot_of p)

-- The table has the index of each of the entries' places: in its slot, or beside a taken slot.
abbrev pub AreIndices : EntryTable → List ℕ → Type 0
AreIndices table places = (i p : ℕ) → slice_get places i ≡ Some p →
    (slice_get table.slots.items (slot_of p) ≡ Some i)
    ⊎ (IsSlotTaken table places p × (position_of_key table.others p ≡ Some i))
