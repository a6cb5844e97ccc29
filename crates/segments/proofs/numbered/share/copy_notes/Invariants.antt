use Rattle.std.proofs.Common.{◌≡◌, ◌≤◌, take}
use Rattle.segments.proofs.numbered.share.copy_notes.Given as goal

abbrev pub invariant-loop-index : goal.invariant-loop-index
invariant-loop-index l = record {
  so_far : l.part.0 ≡ take l.index l.all.0;
  within : l.index ≤ l.count;
}
