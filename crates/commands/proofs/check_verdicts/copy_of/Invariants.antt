use Rattle.std.proofs.Common.{◌≡◌, ◌≤◌, length, take, vec_capacity}
use Rattle.commands.proofs.check_verdicts.copy_of.Given as goal

-- The entries so far.
abbrev pub invariant-loop-entry : goal.invariant-loop-entry
invariant-loop-entry l = record {
  are : l.entries.items ≡ take l.entry-index l.entry-items;
  room : length l.entry-items ≤ vec_capacity l.entries;
}
