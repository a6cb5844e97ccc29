use Rattle.std.proofs.Common.{◌≡◌, ℕ, ◌<◌, slice_get, Some}
use Rattle.replay.proofs.reasons.has_place.Given as goal

-- The places so far are others.
abbrev pub invariant-loop-other : goal.invariant-loop-other
invariant-loop-other l = (k : ℕ) → k < l.other-index → slice_get l.places k ≡ Some l.place → ⊥
