use Rattle.std.proofs.Common.{◌≡◌, ◌++◌, take}
use Rattle.std.specs.List.{flat_map}
use Rattle.event_files.specs.Refutations.{entry_text}
use Rattle.event_files.proofs.refutation_text.push_entries.Given as goal

abbrev pub invariant-loop-entry : goal.invariant-loop-entry
invariant-loop-entry l =
    l.text.items ≡ l.initial.text.items ++ flat_map entry_text (take l.entry-index l.entries)
