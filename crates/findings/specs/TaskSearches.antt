-- The search of a task (this project's profile).
use Rattle.std.specs.Prelude.{◌≡◌, ℕ, ◌<◌, ◌≤◌, List, [], length, Some}
use Rattle.std.specs.Option.{ForSome, option_map_or}
use Rattle.trace_model.specs.declared.limits.TheConstants.{MAX_CYCLES}
use Rattle.trace_model.specs.Theory.Trace.{Trace}
use Rattle.trace_model.specs.Theory.Cycles.{AreCyclesFrom, ListBelow}
use Rattle.trace_model.specs.Theory.Dependencies.{dependencies}
use Rattle.snapshots.specs.Found.{AreRowsOf}
use Rattle.cycle_search.specs.Pausing.{IsSearchOf, position_of}
use Rattle.cycle_search.specs.declared.paused.Searched.{Searched}
use Rattle.cycle_search.specs.declared.paused.Searched.TheVariants as cycles
use Rattle.findings.specs.Found.{AskedQuestion}
use Rattle.findings.specs.declared.rows.SearchedRows.{SearchedRows}
use Rattle.findings.specs.declared.rows.SearchedRows.TheVariants as rows
use Rattle.findings.specs.declared.task_search.Advanced.{Advanced}
use Rattle.findings.specs.declared.task_search.Advanced.TheVariants as tasks
use Rattle.findings.specs.declared.task_search.TaskSearch.{TaskSearch}

-- What is left of the search: the cycles that are not before this list in lexicographic order.
-- Before the first step these are all.
abbrev pub task_position : TaskSearch → List ℕ
task_position search = option_map_or position_of search.search []

-- The search for the cycles of its task in these events, up to the bound.
abbrev pub IsTaskSearch : Trace → ℕ → TaskSearch → Type 0
IsTaskSearch s bound search =
    ForSome search.search (IsSearchOf (dependencies s) bound search.task)

-- The search of the same task, later if it could visit a member.
pub record ContinuesSearch (s : Trace) (bound visits : ℕ) (search later : TaskSearch) : Type 0 where
  pub same_task : later.task ≡ search.task
  pub searches : IsTaskSearch s bound later
  pub is_later : 0 < visits → ListBelow (task_position search) (task_position later)

-- All cycles of the task, or its search later.
abbrev pub AreSearchedCycles : Trace → ℕ → ℕ → TaskSearch → Searched → Type 0
AreSearchedCycles s bound visits search (cycles.All found) =
    AreCyclesFrom (dependencies s) bound search.task found.items
    × (length found.items ≤ MAX_CYCLES)
AreSearchedCycles s bound visits search (cycles.Paused later) =
    ContinuesSearch s bound visits search (record { task = search.task; search = Some later })

-- The rows of the task, or its search later.
abbrev pub AreSearchedRows : Trace → ℕ → ℕ → TaskSearch → SearchedRows → Type 0
AreSearchedRows s bound visits search (rows.All found) = AreRowsOf s bound search.task found.items
AreSearchedRows s bound visits search (rows.Paused later) =
    ContinuesSearch s bound visits search later

-- The finding of the job's task, or its search later.
abbrev pub AdvancesTo : AskedQuestion → ℕ → TaskSearch → Advanced → Type 0
AdvancesTo job visits search (tasks.Finished f) =
    (f.question ≡ job.question) × (f.bound ≡ job.bound) × (f.task ≡ search.task)
    × (f.events ≡ job.events)
AdvancesTo job visits search (tasks.Paused later) =
    ContinuesSearch job.events job.bound visits search later
