use Rattle.std.proofs.Common.{◌≡◌, ◌≤◌, ◌-◌, length, take}
use Rattle.trace_model.specs.Protocol.Batches.{AreLawful}
use Rattle.trace_model.specs.Protocol.Machine.{with_events}
use Rattle.sequencer.proofs.book.Book.record_batch.Given as goal

-- the events so far are accepted, each lawful after those before it
abbrev pub invariant-loop-accepted : goal.invariant-loop-accepted
invariant-loop-accepted l = record {
  some : 1 ≤ l.accepted;
  within : l.accepted ≤ length l.events;
  lawful : AreLawful l.fn.self.state.limit l.fn.self.state.accepted (take l.accepted l.events);
  appended : l.self.state ≡ with_events l.fn.self.state (take l.accepted l.events);
}

abbrev pub decreases-loop-accepted : goal.decreases-loop-accepted
decreases-loop-accepted l = length l.events - l.accepted
