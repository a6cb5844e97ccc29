-- Tables of positions and of prefixes.
use Rattle.std.specs.Prelude.{ℕ, List, nat_eq, Option, Some, None, ◌==◌, slice_get, unwrap_or, if◌then◌else◌}
use Rattle.std.specs.Map.{lookup}
use Rattle.std.specs.Option.{option_and_then}
use Rattle.explain.specs.declared.tables.Prefix.{Prefix}
use Rattle.explain.specs.declared.tables.KeyPrefix.{KeyPrefix}
use Rattle.explain.specs.declared.tables.PrefixTable.{PrefixTable}

-- The position of a key, or none.
abbrev pub position_of_key : List (ℕ × Option ℕ) → ℕ → Option ℕ
position_of_key table key = unwrap_or (lookup (nat_eq key) table) None

-- The prefix that is listed at the position, or none unless it is the key's.
abbrev pub listed_at : List KeyPrefix → ℕ → ℕ → Option Prefix
listed_at listed key position = option_and_then
    (λ known. if known.key == key then Some known.prefix else None) (slice_get listed position)

-- The prefix of a key, or none.
abbrev pub prefix_at : PrefixTable → ℕ → Option Prefix
prefix_at table key = option_and_then (listed_at table.listed.items key)
    (position_of_key table.positions key)
