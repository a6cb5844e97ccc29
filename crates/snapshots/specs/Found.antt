-- What a finding is.
use Rattle.std.specs.Prelude.{◌≡◌, ℕ, ◌≤◌, List, map, length}
use Rattle.std.specs.List.{All}
use Rattle.trace_model.specs.Theory.Trace.{Trace}
use Rattle.trace_model.specs.Theory.Dependencies.{dependencies}
use Rattle.trace_model.specs.Theory.Rows.{AreRows}
use Rattle.trace_model.specs.declared.limits.TheConstants.{MAX_CYCLES}
use Rattle.reports.specs.Printed.{PrintedRow, with_dependencies}

-- Each row has the dependencies of its numbers.
abbrev pub AreNamed : Trace → List PrintedRow → Type 0
AreNamed s rows = All (λ p. p ≡ with_dependencies (dependencies s) p.row) rows

-- The rows of a task.
pub record AreRowsOf (events : Trace) (bound task : ℕ) (rows : List PrintedRow) : Type 0 where
  pub exact : AreRows events bound task (map (λ p. p.row) rows)
  pub named : AreNamed events rows
  pub few : length rows ≤ MAX_CYCLES

-- A finding: the question, bound, task and events for which it was computed, and its rows.
pub record RowsOfTask : Type 0 where
  pub question : ℕ
  pub bound : ℕ
  pub task : ℕ
  pub events : Trace
  pub rows : List PrintedRow
