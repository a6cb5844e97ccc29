use Rattle.std.proofs.Common.{◌≡◌, ℕ, ◌<◌, ◌≤◌, slice_get, Some}
use Rattle.replay.proofs.numbers.place_from.Given as goal

-- No place so far has the number.
abbrev pub invariant-loop-index : goal.invariant-loop-index
invariant-loop-index l = (u : ℕ) → l.start ≤ u → u < l.index → slice_get l.numbers u ≡ Some (Some l.number) → ⊥
