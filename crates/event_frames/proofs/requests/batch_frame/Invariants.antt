use Rattle.std.proofs.Common.{◌≡◌, ◌+◌, ◌*◌, ◌++◌, ◌∷◌, length, take}
use Rattle.std.specs.Int.{w16, to_be_bytes}
use Rattle.std.specs.List.{flat_map}
use Rattle.trace_model.specs.Protocol.Frames.{event_bytes}
use Rattle.event_frames.proofs.requests.batch_frame.Given as goal

-- the events so far are written
abbrev pub invariant-loop-event : goal.invariant-loop-event
invariant-loop-event l = l.out.items ≡ to_be_bytes w16 (2 + 9 * length l.events) ++ (10 ∷ length l.events ∷ flat_map event_bytes (take l.event-index l.events))
