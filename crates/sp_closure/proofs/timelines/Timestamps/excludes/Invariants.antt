use Rattle.std.proofs.Common.{◌≡◌, length}
use Rattle.fronts.specs.Members.{Each}
use Rattle.sp_closure.specs.Timestamps.{AllFrom, AllHold}
use Rattle.sp_closure.proofs.timelines.Timestamps.excludes.Given as goal

abbrev pub invariant-loop-round : goal.invariant-loop-round
invariant-loop-round l = record {
  entries : length l.entries ≡ 8;
  stamps : length l.stamps ≡ 8;
  from : AllFrom l.self l.numbers l.entries;
  held : Each (AllHold l.self l.numbers) l.stamps;
}
