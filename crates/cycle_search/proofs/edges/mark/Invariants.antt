use Rattle.std.proofs.Common.{◌≡◌, ◌<◌, ℕ, true, length, Some, slice_get, slice_index}
use Rattle.cycle_search.proofs.edges.mark.Given as goal

abbrev pub invariant-loop-number : goal.invariant-loop-number
invariant-loop-number l = record {
  each : length l.marks.items ≡ length l.fn.marks.items;
  kept : (n : ℕ) → slice_get l.fn.marks.items n ≡ Some true → slice_get l.marks.items n ≡ Some true;
  marked : (k n : ℕ) → k < l.number-index → slice_get l.numbers k ≡ Some n → slice_index l.values n ≡ l.value → slice_get l.marks.items n ≡ Some true;
}
