use Rattle.std.proofs.Common.{length}
use Rattle.sessions.proofs.Answering.{IsAnswering}
use Rattle.sessions.proofs.serving.answer_all.Given as goal

abbrev pub invariant-loop-request : goal.invariant-loop-request
invariant-loop-request g l = IsAnswering g.C.Calls.steps l.fn.calls l.fn.reader (g.K.Sink.written l.fn.sink) (g.K.Sink.failures l.fn.sink) l.calls l.reader (g.K.Sink.written l.sink) (g.K.Sink.failures l.sink)

abbrev pub decreases-loop-request : goal.decreases-loop-request
decreases-loop-request g l = length l.reader.rest
