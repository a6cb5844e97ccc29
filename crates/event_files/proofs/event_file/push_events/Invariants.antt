use Rattle.std.proofs.Common.{◌≡◌, ◌++◌, map, take}
use Rattle.std.specs.List.{All}
use Rattle.trace_model.specs.Protocol.Frames.{FitsWords}
use Rattle.event_files.specs.EventFile.{event_word}
use Rattle.event_files.proofs.event_file.push_events.Given as goal

abbrev pub invariant-loop-word : goal.invariant-loop-word
invariant-loop-word l =
    (map event_word l.events.items ≡ map event_word l.initial.events.items ++ map (λ word. word.now) (take l.word-index l.words))
    × (All FitsWords l.initial.events.items → All FitsWords l.events.items)
