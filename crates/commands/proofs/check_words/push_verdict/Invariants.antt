use Rattle.std.proofs.Common.{◌≡◌, ◌++◌, codes, take}
use Rattle.std.specs.List.{flat_map}
use Rattle.event_files.specs.Refutations.{label_and_number}
use Rattle.commands.proofs.check_words.push_verdict.Given as goal

-- The numbers so far.
abbrev pub invariant-loop-number : goal.invariant-loop-number
invariant-loop-number l =
    l.text.items ≡ l.fn.text.items ++ (codes "cycle" ++ flat_map (label_and_number (codes " ")) (take l.number-index l.number-items))
