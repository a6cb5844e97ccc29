use Rattle.std.proofs.Common.{length}
use Rattle.event_files.specs.EventFile.{pieces_at}
use Rattle.event_files.proofs.ReadLines.{ReadSoFar}
use Rattle.event_files.proofs.event_file.read_events.Given as goal

abbrev pub invariant-loop-kept : goal.invariant-loop-kept
invariant-loop-kept l = ReadSoFar l.file l.kept.items l.rest l.number

abbrev pub decreases-loop-kept : goal.decreases-loop-kept
decreases-loop-kept l = length (pieces_at 10 l.rest)
