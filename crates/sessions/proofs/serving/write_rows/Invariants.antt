use Rattle.sessions.proofs.Puts.{IsPoured}
use Rattle.sessions.proofs.serving.write_rows.Given as goal

abbrev pub invariant-loop : goal.invariant-loop
invariant-loop g l =
    (goal.iterator-loop g).can_next l.iterator' × (goal.iterator-loop g).is_finite l.iterator'
    × IsPoured (g.K.Sink.written l.fn.sink) (g.K.Sink.written l.sink) (g.K.Sink.failures l.fn.sink) (g.K.Sink.failures l.sink) l.fn.rows l.left
