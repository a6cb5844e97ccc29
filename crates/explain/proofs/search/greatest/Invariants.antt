use Rattle.std.proofs.Common.{◌≡◌, ℕ, ◌<◌, ◌≤◌, slice_get, Some}
use Rattle.std.specs.List.{Contains}
use Rattle.explain.proofs.search.greatest.Given as goal

-- It is the greatest of the places so far.
abbrev pub invariant-loop-k : goal.invariant-loop-k
invariant-loop-k l = record {
  member : (m : ℕ) → l.greatest ≡ Some m → Contains l.places m;
  greatest : (j p : ℕ) → j < l.k → slice_get l.places j ≡ Some p → (m : ℕ) × (l.greatest ≡ Some m) × (p ≤ m);
}
