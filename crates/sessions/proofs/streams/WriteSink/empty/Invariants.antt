use Rattle.std.proofs.Common.{◌-◌, ◌≡◌}
use Rattle.std.specs.Io.KnownBytes.{Keeps, append_known}
use Rattle.sessions.specs.Pending.{buffered_bytes}
use Rattle.sessions.proofs.streams.WriteSink.empty.Given as goal

abbrev pub invariant-loop-self : goal.invariant-loop-self
invariant-loop-self g l = record {
  kept : Keeps (append_known (g.O.Write.contents l.fn.self.inner) (buffered_bytes l.fn.self.buffer l.fn.self.start l.fn.self.end)) (append_known (g.O.Write.contents l.self.inner) (buffered_bytes l.self.buffer l.self.start l.self.end));
  same : l.self.failures ≡ l.fn.self.failures;
}

abbrev pub decreases-loop-self : goal.decreases-loop-self
decreases-loop-self g l = l.self.end - l.self.start
