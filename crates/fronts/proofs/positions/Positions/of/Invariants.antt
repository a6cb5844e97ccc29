use Rattle.std.proofs.Common.{◌≡◌, ℕ, ◌+◌, ◌<◌, ◌≤◌, length, slice_get, Some}
use Rattle.fronts.specs.Runs.{IsThreadRun}
use Rattle.fronts.proofs.positions.Positions.of.Given as goal

abbrev pub invariant-loop-place : goal.invariant-loop-place
invariant-loop-place l = record {
  within : l.place ≤ length l.prefixes.items;
  all : length l.lengths.items ≡ length l.prefixes.items;
  here : l.place < length l.prefixes.items → IsThreadRun l.prefixes.items l.place (l.place + l.length);
  each : (p n : ℕ) → l.place ≤ p → slice_get l.lengths.items p ≡ Some n → IsThreadRun l.prefixes.items p (p + n);
}

abbrev pub decreases-loop-place : goal.decreases-loop-place
decreases-loop-place l = l.place
