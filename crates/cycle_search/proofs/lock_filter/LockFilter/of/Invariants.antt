use Rattle.std.proofs.Common.{ℕ, ◌≡◌, ◌<◌, ◌%◌, length, slice_get, Some, true}
use Rattle.cycle_search.proofs.lock_filter.LockFilter.of.Given as goal

abbrev pub invariant-loop-lock : goal.invariant-loop-lock
invariant-loop-lock l = record {
  sized : length l.marks ≡ 64;
  marked : (k lock : ℕ) → k < l.lock-index → slice_get l.lock-items k ≡ Some lock →
      slice_get l.marks (lock % 64) ≡ Some true;
}
