use Rattle.std.proofs.Common.{◌≡◌, ◌++◌, take}
use Rattle.commands.proofs.CheckedCycles.{are_valid, texts}
use Rattle.commands.proofs.check_words.push_rows.Given as goal

-- The lines so far.
abbrev pub invariant-loop-line : goal.invariant-loop-line
invariant-loop-line g l = record {
  text : l.text.items ≡ l.initial.text.items ++ texts (take l.line-index l.line-items);
  valid : l.are_valid ≡ are_valid (take l.line-index l.line-items);
}
