use Rattle.std.proofs.Common.{◌≤◌, ◌-◌, length}
use Rattle.segments.specs.Notes.{pairs_of}
use Rattle.segments.proofs.Below.{AllFirst, AllRest}
use Rattle.segments.proofs.numbered.share.count_below.Given as goal

-- all notes before low have a place below the bound, and none from high on
abbrev pub invariant-loop-low : goal.invariant-loop-low
invariant-loop-low l = record {
  in_order : l.low ≤ l.high;
  within : l.high ≤ length l.notes.0;
  first : AllFirst l.bound l.low (pairs_of l.notes.0);
  rest : AllRest l.bound l.high (pairs_of l.notes.0);
}

abbrev pub decreases-loop-low : goal.decreases-loop-low
decreases-loop-low l = l.high - l.low
