use Rattle.std.proofs.Common.{◌≡◌, ◌<◌, ◌≤◌, ℕ, slice_get, Some}
use Rattle.fronts.proofs.fronts.greatest.Given as goal

abbrev pub invariant-loop-place : goal.invariant-loop-place
invariant-loop-place l = (k p : ℕ) → k < l.place-index → slice_get l.places k ≡ Some p → p ≤ l.greatest
