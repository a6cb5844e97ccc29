use Rattle.std.proofs.Common.{◌≡◌, ◌++◌, None, take}
use Rattle.trace_index.specs.Links.{trace_of}
use Rattle.trace_index.specs.Room.{IsWhole}
use Rattle.trace_index.proofs.growing.IndexParts.extend.Given as goal

-- the first of the events are added to the old ones
abbrev pub invariant-loop-event : goal.invariant-loop-event
invariant-loop-event g l = record {
  whole : IsWhole l.self None;
  events : trace_of l.self.rows.0 ≡ trace_of l.fn.self.rows.0 ++ take l.event-index l.events;
}
