use Rattle.std.proofs.Common.{length}
use Rattle.sequencer.proofs.Drained.{IsDrained}
use Rattle.sequencer.proofs.playing.drain.Given as goal

abbrev pub invariant-loop-request : goal.invariant-loop-request
invariant-loop-request l = IsDrained l.fn.book.state l.fn.reader l.fn.sent.items l.book.state l.reader l.sent.items

abbrev pub decreases-loop-request : goal.decreases-loop-request
decreases-loop-request l = length l.reader.rest
