use Rattle.std.proofs.Common.{◌≡◌, length}
use Rattle.replay.proofs.Marks.{MarkedFrom}
use Rattle.replay.proofs.reasons.unmark.Given as goal

-- Only places of the entries that are left are marked.
abbrev pub invariant-loop-entry : goal.invariant-loop-entry
invariant-loop-entry l = record {
  sized : length l.marks.items ≡ length l.fn.marks.items;
  left : MarkedFrom l.marks.items l.entries l.entry-index;
}
