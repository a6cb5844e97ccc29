-- Arrays that are cleared in constant time.
use Rattle.std.specs.Prelude.{◌≡◌, ◌≢◌, ℕ, ◌==◌, false, List, length, slice_get, Option, Some, None, if◌then◌else◌}
use Rattle.std.specs.Option.{option_map_or}
use Rattle.fronts.specs.declared.epoch_array.EpochArray.{EpochArray}

-- An entry has its value if its epoch is the current one.
abbrev pub entry_of : {T : Type 0} → List T → List ℕ → ℕ → ℕ → Option T
entry_of values epochs epoch e =
    if option_map_or (λ s. s == epoch) (slice_get epochs e) false then slice_get values e
    else None

-- The value of an entry.
abbrev pub value_at : {T : Type 0} → EpochArray T → ℕ → Option T
value_at s e = entry_of s.values.items s.epochs.items s.epoch e

-- The number of entries.
abbrev pub size : {T : Type 0} → EpochArray T → ℕ
size s = length s.epochs.items

-- No entry has a value.
pub record IsBlankArray {T : Type 0} (size_of : ℕ) (epoch_array : EpochArray T) : Type 0 where
  pub none : (e : ℕ) → value_at epoch_array e ≡ None
  pub size : size epoch_array ≡ size_of

-- The entry has the value, and the others are unchanged.
pub record Sets {T : Type 0} (old : EpochArray T) (e : ℕ) (value : T)
    (new : EpochArray T) : Type 0 where
  pub here : value_at new e ≡ Some value
  pub others : (x : ℕ) → x ≢ e → value_at new x ≡ value_at old x
  pub size : size new ≡ size old
