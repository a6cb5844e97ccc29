-- A filter for keys that are not in a hash map.
use Rattle.std.specs.Prelude.{◌≡◌, ℕ, ◌+◌, ◌/◌, ◌%◌, Bool, true, ◌==◌, Some, slice_index_or}
use Rattle.std.specs.Int.{bit_at}
use Rattle.std.specs.HashMap.{HashMap, get}
use Rattle.trace_index.specs.declared.row.Key.{Key}
use Rattle.trace_index.specs.declared.row.Key.TheVariants.{OfThread, ForkOf, AcquireOf, WriteOf}
use Rattle.trace_index.specs.declared.key_filter.KeyFilter.{KeyFilter}
use Rattle.trace_index.specs.Links.{same_key}

-- The number of the key in a cache.
abbrev pub cache_number : Key → ℕ
cache_number (OfThread t) = t
cache_number (ForkOf c) = (c + 858993459) % 4294967296
cache_number (AcquireOf l) = (l + 1717986918) % 4294967296
cache_number (WriteOf v) = (v + 2576980377) % 4294967296

-- The bit of the key's residue is set, as a test.
abbrev pub may_have : KeyFilter → Key → Bool
may_have f key =
    bit_at (slice_index_or f.words (cache_number key / 64 % 64) 0) (cache_number key % 64) == 1

-- The filter has each key of the map.
abbrev pub HasKeysOf : {S : Type 0} → KeyFilter → HashMap Key ℕ S → Type 0
HasKeysOf f m = (key : Key) (place : ℕ) → get same_key m key ≡ Some place → may_have f key ≡ true
