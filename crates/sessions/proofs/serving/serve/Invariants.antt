use Rattle.sessions.proofs.SessionTurns.{IsServing}
use Rattle.sessions.proofs.serving.serve.Given as goal

abbrev pub invariant-loop : goal.invariant-loop
invariant-loop g l =
    (goal.iterator-loop g).can_next l.iterator' × (goal.iterator-loop g).is_finite l.iterator'
    × IsServing g.C.Calls.steps (g.S.Source.left l.fn.source) (g.K.Sink.written l.fn.sink) l.fn.calls (g.S.Source.failures l.fn.source) (g.K.Sink.failures l.fn.sink) l.reader (g.S.Source.left l.source) (g.K.Sink.written l.sink) l.calls (g.S.Source.failures l.source) (g.K.Sink.failures l.sink)
