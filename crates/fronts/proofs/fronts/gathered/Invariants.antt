use Rattle.std.proofs.Common.{◌≡◌, ℕ, length, Some, slice_get}
use Rattle.fronts.specs.Overlays.{front_of}
use Rattle.fronts.proofs.fronts.gathered.Given as goal

abbrev pub invariant-loop-slot : goal.invariant-loop-slot
invariant-loop-slot l = record {
  count : length l.counts.items ≡ l.slot;
  fronts : (a n : ℕ) → slice_get l.counts.items a ≡ Some n → n ≡ front_of l.under l.overlay a;
}
