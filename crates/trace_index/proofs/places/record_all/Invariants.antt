use Rattle.std.proofs.Common.{◌≡◌, ◌≤◌, ◌+◌, length, take}
use Rattle.std.specs.Option.{option_or}
use Rattle.std.specs.Map.{lookup}
use Rattle.std.specs.HashMap.{get, spare}
use Rattle.trace_index.specs.declared.row.Key.{Key}
use Rattle.trace_index.specs.Links.{same_key}
use Rattle.trace_index.proofs.places.record_all.Given as goal

-- the first of the later places are recorded, and memory is reserved for the others
abbrev pub invariant-loop-index : goal.invariant-loop-index
invariant-loop-index l = record {
  within : l.index ≤ length l.later.entries;
  shown : (q : Key) → get same_key l.places q ≡ option_or (lookup (same_key q) (take l.index l.later.entries)) (get same_key l.fn.places q);
  room : length l.later.entries ≤ spare l.places + l.index;
}
