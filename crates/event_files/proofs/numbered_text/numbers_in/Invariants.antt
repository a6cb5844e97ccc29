use Rattle.std.proofs.Common.{◌≡◌, ◌++◌, ℕ, List, true, length}
use Rattle.event_files.specs.NumberedText.{AreSmall, is_after_numbers, after_spaces}
use Rattle.event_files.proofs.NumberedTexts.{LeftOf}
use Rattle.event_files.proofs.numbered_text.numbers_in.Given as goal

-- the numbers so far are those before the rest
abbrev pub invariant-loop-number : goal.invariant-loop-number
invariant-loop-number l = record {
  text_is : l.text ≡ after_spaces l.numbers.items ++ l.rest;
  small : AreSmall l.numbers.items;
  left : (numbers rest : List ℕ) → AreSmall numbers → is_after_numbers rest ≡ true → l.text ≡ after_spaces numbers ++ rest → LeftOf l.numbers.items l.rest numbers rest;
}

abbrev pub decreases-loop-number : goal.decreases-loop-number
decreases-loop-number l = length l.rest
