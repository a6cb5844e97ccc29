-- Refusals of a desk (this project's profile).
use Rattle.std.specs.Prelude.{◌≡◌, ℕ, ◌≤◌, ◌⊎◌, Some, None}
use Rattle.trace_model.specs.declared.refusal.Refusal.{Refusal}
use Rattle.trace_model.specs.declared.refusal.Refusal.TheVariants.{NoMemory, BoardBusy, TooManyCycles}
use Rattle.trace_model.specs.Protocol.Machine.{State}
use Rattle.snapshots.specs.Found.{RowsOfTask}
use Rattle.sequencer.specs.Book.{IsBookLimit}
use Rattle.sequencer.specs.Deliveries.{delivery}
use Rattle.desk.specs.declared.worker.TurnFailure.{TurnFailure}
use Rattle.desk.specs.declared.worker.TurnFailure.TheVariants as NoTurn
use Rattle.desk.specs.declared.locked.DeskRefused.{DeskRefused}
use Rattle.desk.specs.declared.locked.DeskRefused.TheVariants.{BadLimit, BadCount, NotMade}

-- a desk may have this number of readers
abbrev pub IsCount : ℕ → Type 0
IsCount readers = (1 ≤ readers) × (readers ≤ 40)

-- the reason why no desk was created with this limit and number of readers is right
abbrev pub RefusesDesk : ℕ → ℕ → DeskRefused → Type 0
RefusesDesk limit readers BadLimit = IsBookLimit limit → ⊥
RefusesDesk limit readers BadCount = IsBookLimit limit × (IsCount readers → ⊥)
RefusesDesk limit readers NotMade = IsBookLimit limit × IsCount readers

-- the refusal is the machine's; or it is `NoMemory` and the machine takes the finding
abbrev pub RefusesFinding : State → RowsOfTask → Refusal → Type 0
RefusesFinding s f r = (delivery s f ≡ (Some r, s)) ⊎ ((r ≡ NoMemory) × ((delivery s f).0 ≡ None))

-- the refusal of a failed turn
abbrev pub failure : TurnFailure → Refusal
failure NoTurn.NoMemory = NoMemory
failure NoTurn.BoardBusy = BoardBusy
failure NoTurn.TooManyCycles = TooManyCycles
