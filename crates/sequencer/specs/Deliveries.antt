-- The outcome of a finding (this project's profile).
use Rattle.std.specs.Prelude.{Option, Some, None, Result, Ok, Err}
use Rattle.trace_model.specs.declared.refusal.Refusal.{Refusal}
use Rattle.trace_model.specs.Protocol.Machine.{State, deliver}
use Rattle.snapshots.specs.Found.{RowsOfTask}
use Rattle.sequencer.specs.Book.{findings_rows}

-- the refusal of the finding, if any, and the machine after it
abbrev pub delivery : State → RowsOfTask → Option Refusal × State
delivery state f = deliver state f.question f.bound f.events f.task (findings_rows f)

-- the finding was taken, or refused and given back
abbrev pub DeliveryResult : Type 0
DeliveryResult = Result Unit (Refusal × RowsOfTask)

abbrev pub handed_back : RowsOfTask → Option Refusal → DeliveryResult
handed_back finding None = Ok record {}
handed_back finding (Some refusal) = Err (refusal, finding)
