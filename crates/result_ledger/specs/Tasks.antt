-- The tasks of a question, and the rows of those that are delivered.
use Rattle.std.specs.Prelude.{◌≡◌, ℕ, ◌≤◌, List, map, slice_get, Option, Some, None, Vec}
use Rattle.std.specs.Arc.{arc_value}
use Rattle.std.specs.declared.alloc.Global.{Global}
use Rattle.std.specs.declared.sync.Arc.{Arc}
use Rattle.reports.specs.Printed.{PrintedRow}
use Rattle.result_ledger.specs.declared.ledger.LedgerRefused.{LedgerRefused}
use Rattle.result_ledger.specs.declared.ledger.LedgerRefused.TheVariants.{NoSuchTask, Double}

-- The rows of each task, once it is delivered.
abbrev pub Tasks : Type 0
Tasks = List (Option (List PrintedRow))

-- The task exists and is not delivered.
abbrev pub IsMissing : Tasks → ℕ → Type 0
IsMissing tasks task = slice_get tasks task ≡ Some None

-- Why the rows of a task are refused.
abbrev pub IsLedgerRefusal : Tasks → ℕ → LedgerRefused → Type 0
IsLedgerRefusal tasks task NoSuchTask = slice_get tasks task ≡ None
IsLedgerRefusal tasks task Double = (rows : List PrintedRow)
    × (slice_get tasks task ≡ Some (Some rows))

-- The least task that is not delivered.
abbrev pub IsLeastMissing : Tasks → ℕ → Type 0
IsLeastMissing tasks task = IsMissing tasks task
    × ((other : ℕ) → IsMissing tasks other → task ≤ other)

-- A task is missing; or these are the rows of all tasks, shared.
abbrev pub AreShared : Tasks → Option (Arc (Vec (Vec PrintedRow Global) Global) Global) → Type 0
AreShared tasks None = (task : ℕ) × IsMissing tasks task
AreShared tasks (Some shared) = tasks ≡ map (λ task. Some task.items) (arc_value shared).items
