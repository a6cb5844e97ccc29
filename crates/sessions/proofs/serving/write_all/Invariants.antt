use Rattle.std.proofs.Common.{length, ◌-◌}
use Rattle.sessions.proofs.Puts.{IsPut}
use Rattle.sessions.proofs.serving.write_all.Given as goal

abbrev pub invariant-loop-at : goal.invariant-loop-at
invariant-loop-at g l = IsPut (g.K.Sink.written l.fn.sink) (g.K.Sink.written l.sink) (g.K.Sink.failures l.fn.sink) (g.K.Sink.failures l.sink) l.bytes l.at

abbrev pub decreases-loop-at : goal.decreases-loop-at
decreases-loop-at g l = length l.bytes - l.at
