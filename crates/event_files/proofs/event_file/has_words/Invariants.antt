use Rattle.std.proofs.Common.{◌≡◌, drop}
use Rattle.event_files.specs.EventFile.{line_words}
use Rattle.event_files.specs.WitnessFile.{has_words}
use Rattle.event_files.proofs.event_file.has_words.Given as goal

-- the bytes so far are spaces
abbrev pub invariant-loop-byte : goal.invariant-loop-byte
invariant-loop-byte l = has_words (line_words l.line) ≡ has_words (line_words (drop l.byte-index l.line))
