use Rattle.std.proofs.Common.{ℕ, ◌<◌, Contains, slice_index}
use Rattle.held_sets.proofs.set.HeldSet.is_disjoint.Given as goal

abbrev pub invariant-loop-lock : goal.invariant-loop-lock
invariant-loop-lock l = (k : ℕ) → k < l.lock-index → ¬ Contains l.other (slice_index l.lock-items k)
