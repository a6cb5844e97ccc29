use Rattle.std.proofs.Common.{◌≡◌, ℕ, ◌<◌, length, slice_get, Some}
use Rattle.fronts.proofs.epoch_array.reset.Given as goal

abbrev pub invariant-loop-entry : goal.invariant-loop-entry
invariant-loop-entry l = record {
  length : length l.epochs ≡ length l.fn.epochs;
  zero : (e x : ℕ) → e < l.entry → slice_get l.epochs e ≡ Some x → x ≡ 0;
}
