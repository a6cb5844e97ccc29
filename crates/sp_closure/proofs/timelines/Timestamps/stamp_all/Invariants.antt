use Rattle.std.proofs.Common.{◌≡◌, length}
use Rattle.fronts.specs.Members.{Each}
use Rattle.sp_closure.specs.Timestamps.{AllHold}
use Rattle.sp_closure.proofs.timelines.Timestamps.stamp_all.Given as goal

abbrev pub invariant-loop-j : goal.invariant-loop-j
invariant-loop-j l = record {
  count : length l.stamps ≡ length l.fn.stamps;
  held : Each (AllHold l.fn.self l.fn.numbers) l.stamps;
}
