use Rattle.std.proofs.Common.{◌≡◌, ◌≤◌, length, map, take, vec_capacity}
use Rattle.commands.specs.Explain.{AreNumberWords}
use Rattle.commands.proofs.explain_command.numbers_of.Given as goal

-- The numbers so far.
abbrev pub invariant-loop-word : goal.invariant-loop-word
invariant-loop-word l = record {
  are : AreNumberWords (map (λ word. word.now) (take l.word-index l.words)) l.numbers.items;
  room : length l.words ≤ vec_capacity l.numbers;
  count : length l.numbers.items ≡ l.word-index;
}
