use Rattle.std.proofs.Common.{◌≡◌, length}
use Rattle.sequencer.specs.Drains.{AreNew}
use Rattle.sequencer.proofs.playing.open_sessions.Given as goal

abbrev pub invariant-loop : goal.invariant-loop
invariant-loop l = (length l.sessions.items ≡ l.counter) × AreNew l.sessions.items
