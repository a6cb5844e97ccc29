-- Published runs, and the machine after them (this project's profile).
use Rattle.std.specs.Prelude.{◌≡◌, ℕ, ◌≤◌, List, [], ◌∷◌, ◌++◌, length, None}
use Rattle.std.specs.List.{count_by}
use Rattle.trace_model.specs.declared.limits.TheConstants.{MAX_EVENTS}
use Rattle.trace_model.specs.declared.messages.step.BoardStep.{BoardStep}
use Rattle.trace_model.specs.declared.messages.step.BoardStep.TheVariants.{Deliver}
use Rattle.trace_model.specs.Theory.Rows.{AreRows}
use Rattle.trace_model.specs.Protocol.Machine.{State, opening, is_confirmed}
use Rattle.trace_model.specs.Protocol.Runs.{IsRun}
use Rattle.snapshots.specs.Found.{RowsOfTask}
use Rattle.sequencer.specs.Book.{findings_rows}
use Rattle.sequencer.specs.Deliveries.{delivery}

-- the state is that of the machine with this limit after the run
abbrev pub After : ℕ → List BoardStep → State → Type 0
After limit run state = IsRun AreRows (opening limit) run state

-- what contracts see of the value under the lock: the published steps, and the state of the book
pub record DeskView : Type 0 where
  pub published : List BoardStep
  pub state : State

-- the book's state is the machine's after the published steps, and no step waits
pub record IsDesk (limit : ℕ) (published waiting : List BoardStep) (state : State) : Type 0 where
  pub allowed : limit ≤ MAX_EVENTS
  pub after : After limit published state
  pub rests : waiting ≡ []

-- the step that publishes a finding
abbrev pub delivery_step : RowsOfTask → BoardStep
delivery_step f = Deliver f.question f.task (length (findings_rows f))
    (count_by is_confirmed (findings_rows f))

-- the run ends with this step, and the machine moved so by it
pub record EndsBy (limit : ℕ) (run : List BoardStep) (last : BoardStep) (went : State → State →
    Type 0) : Type 0 where
  pub before : List BoardStep
  pub state : State
  pub next : State
  pub ends : run ≡ before ++ last ∷ []
  pub was : After limit before state
  pub is : After limit run next
  pub took : went state next

-- the last step of the run takes the finding
abbrev pub WasTaken : ℕ → RowsOfTask → List BoardStep → Type 0
WasTaken limit f run =
    EndsBy limit run (delivery_step f) (λ state next. delivery state f ≡ (None, next))

-- the property holds of the machine after the run
abbrev pub Afterwards : ℕ → List BoardStep → (State → Type 0) → Type 0
Afterwards limit run so = (state : State) × After limit run state × so state
