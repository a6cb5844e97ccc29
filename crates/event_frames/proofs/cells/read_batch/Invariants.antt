use Rattle.std.proofs.Common.{◌-◌, ◌≡◌, ◌≤◌}
use Rattle.trace_model.specs.Protocol.Frames.{events_in}
use Rattle.event_frames.proofs.cells.read_batch.Given as goal

abbrev pub invariant-loop-index : goal.invariant-loop-index
invariant-loop-index l = (l.index ≤ l.count) × (l.batch ≡ events_in l.index l.cells)

abbrev pub decreases-loop-index : goal.decreases-loop-index
decreases-loop-index l = l.count - l.index
