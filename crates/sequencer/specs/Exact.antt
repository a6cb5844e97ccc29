-- What holds at every time of a run (this project's profile).
use Rattle.std.specs.Prelude.{◌≡◌, ℕ, List, take, slice_get, Some, IfSome}
use Rattle.std.specs.List.{All, flat_map}
use Rattle.trace_model.specs.Theory.Trace.{Trace}
use Rattle.trace_model.specs.Theory.Reordering.{IsReordering, Reaches}
use Rattle.trace_model.specs.Theory.Rows.{Row, AreRows, LeavesDeadlocked}
use Rattle.trace_model.specs.Protocol.Machine.{Question, State, rows_of}
use Rattle.trace_model.specs.Protocol.Bounds.{StateFits}
use Rattle.sequencer.specs.Sessions.{Action, state_after}

-- after each action the accepted events form a well-formed trace, and the rows of each delivered
-- task are exactly those of its question's events
abbrev pub IsAlwaysExact : State → List Action → Type 0
IsAlwaysExact start actions = (n : ℕ) → StateFits AreRows (state_after start (take n actions))

-- if the row is confirmed, its witness is a sync-preserving reordering that reaches its instance
-- and leaves it deadlocked (PLDI 2023)
abbrev pub LeadsToDeadlock : Trace → Row → Type 0
LeadsToDeadlock s row = IfSome row.found (λ found.
    IsReordering s found.witness × Reaches s found.witness found.places
    × LeavesDeadlocked s found.places found.witness)

-- this holds for each row of each report that the machine prints in this state
abbrev pub TellsDeadlocks : State → Type 0
TellsDeadlocks state = (number : ℕ) (q : Question) → slice_get state.questions number ≡ Some q →
    All (LeadsToDeadlock (take q.length state.accepted)) (flat_map rows_of q.tasks)

-- this holds after each action
abbrev pub AlwaysTellsDeadlocks : State → List Action → Type 0
AlwaysTellsDeadlocks start actions = (n : ℕ) → TellsDeadlocks (state_after start (take n actions))
