use Rattle.std.proofs.Common.{◌≡◌, ◌<◌, ◌≤◌, ℕ, Some, slice_get, slice_index}
use Rattle.cycle_search.proofs.edges.are_at_least.Given as goal

abbrev pub invariant-loop-number : goal.invariant-loop-number
invariant-loop-number l = (k n : ℕ) → k < l.number-index → slice_get l.numbers k ≡ Some n → l.from ≤ n → l.least ≤ slice_index l.values n
