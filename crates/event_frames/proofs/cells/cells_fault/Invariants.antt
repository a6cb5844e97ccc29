use Rattle.std.proofs.Common.{◌-◌, ◌≡◌, ◌*◌, ◌≤◌, drop}
use Rattle.trace_model.specs.Protocol.Frames.{cells_fault}
use Rattle.event_frames.proofs.cells.cells_fault.Given as goal

-- the fault of the remaining events is that of all
abbrev pub invariant-loop-index : goal.invariant-loop-index
invariant-loop-index l = (l.index ≤ l.count) × (cells_fault l.count l.cells ≡ cells_fault (l.count - l.index) (drop (9 * l.index) l.cells))

abbrev pub decreases-loop-index : goal.decreases-loop-index
decreases-loop-index l = l.count - l.index
