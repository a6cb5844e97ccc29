use Rattle.std.proofs.Common.{length}
use Rattle.event_files.proofs.FirstLines.{KeptSoFar}
use Rattle.event_files.proofs.event_file.keep_words.Given as goal

-- the events of the words before the rest are kept
abbrev pub invariant-loop-rest : goal.invariant-loop-rest
invariant-loop-rest l = KeptSoFar l.initial.kept.items l.text l.kept.items l.rest

abbrev pub decreases-loop-rest : goal.decreases-loop-rest
decreases-loop-rest l = length l.rest
