use Rattle.std.proofs.Common.{◌≡◌, ℕ, ◌≤◌, length, slice_get, Some, vec_capacity}
use Rattle.replay.specs.Numbers.{IsFirstWith}
use Rattle.replay.proofs.refuting.first_places.Given as goal

-- The places so far are the first places with the members so far.
abbrev pub invariant-loop-number : goal.invariant-loop-number
invariant-loop-number l = record {
  sized : length l.places.items ≡ l.number-index;
  room : length l.members ≤ vec_capacity l.places;
  first : (i p : ℕ) → slice_get l.places.items i ≡ Some p →
      (m : ℕ) × (slice_get l.members i ≡ Some m) × IsFirstWith l.numbers m 0 (Some p);
}
