use Rattle.std.proofs.Common.{◌≡◌, length}
use Rattle.fronts.specs.Members.{Each}
use Rattle.sp_closure.specs.Timestamps.{AllFrom, AllHold}
use Rattle.sp_closure.proofs.timelines.Timestamps.move_all.Given as goal

abbrev pub invariant-loop-i : goal.invariant-loop-i
invariant-loop-i l = record {
  entries : length l.entries ≡ length l.fn.entries;
  stamps : length l.stamps ≡ length l.fn.stamps;
  from : AllFrom l.fn.self l.fn.numbers l.entries;
  held : Each (AllHold l.fn.self l.fn.numbers) l.stamps;
}
