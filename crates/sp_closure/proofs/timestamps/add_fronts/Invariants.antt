use Rattle.std.proofs.Common.{◌≡◌, ◌+◌, ◌≤◌, length, vec_capacity}
use Rattle.fronts.specs.Overlays.{front_of}
use Rattle.sp_closure.specs.Timestamps.{AddsFronts}
use Rattle.sp_closure.proofs.timestamps.add_fronts.Given as goal

abbrev pub invariant-loop-slot : goal.invariant-loop-slot
invariant-loop-slot l = record {
  count : length l.fronts.items ≡ length l.fn.fronts.items + l.slot;
  room : length l.fn.fronts.items + l.fn.count ≤ vec_capacity l.fronts;
  adds : AddsFronts l.fn.fronts.items (front_of l.fn.none l.fn.overlay) l.slot l.fronts.items;
}
