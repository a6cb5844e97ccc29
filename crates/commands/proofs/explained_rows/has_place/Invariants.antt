use Rattle.std.proofs.Common.{◌≡◌, ℕ, ◌-◌, ◌<◌, ◌≤◌, length, slice_get, Some}
use Rattle.commands.proofs.explained_rows.has_place.Given as goal

-- The place is not below `low`, and not from `high` on.
abbrev pub invariant-loop-low : goal.invariant-loop-low
invariant-loop-low l = record {
  order : l.low ≤ l.high;
  within : l.high ≤ length l.places;
  below : (k x : ℕ) → k < l.low → slice_get l.places k ≡ Some x → x < l.wanted;
  above : (k x : ℕ) → l.high ≤ k → slice_get l.places k ≡ Some x → l.wanted < x;
}

abbrev pub decreases-loop-low : goal.decreases-loop-low
decreases-loop-low l = l.high - l.low
