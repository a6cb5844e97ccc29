use Rattle.std.specs.Io.KnownBytes.{Keeps}
use Rattle.sessions.proofs.streams.read_some.Given as goal

abbrev pub invariant-loop : goal.invariant-loop
invariant-loop g l =
    (goal.iterator-loop g).can_next l.iterator' × (goal.iterator-loop g).is_finite l.iterator'
    × Keeps (g.I.Read.remaining l.fn.reader) (g.I.Read.remaining l.reader)
