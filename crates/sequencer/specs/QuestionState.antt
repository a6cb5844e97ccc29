-- The view of a question (this project's profile).
use Rattle.std.specs.Prelude.{◌≡◌, ℕ, List, map, length, slice_get, option_map, Some}
use Rattle.trace_model.specs.Theory.Trace.{Trace}
use Rattle.trace_model.specs.Theory.Rows.{Row}
use Rattle.trace_model.specs.Protocol.Machine.{Question, cycles_of, confirmed_of}
use Rattle.reports.specs.Printed.{PrintedRow}
use Rattle.result_ledger.specs.Tasks.{Tasks}
use Rattle.snapshots.specs.Found.{AreNamed}

-- what contracts see of a question: its length, its bound, and for each task its rows with their
-- dependencies once it is delivered
pub record QuestionView : Type 0 where
  pub length : ℕ
  pub bound : ℕ
  pub tasks : Tasks

-- the rows without their dependencies
abbrev pub plain_rows : List PrintedRow → List Row
plain_rows rows = map (λ p. p.row) rows

-- the machine's question
abbrev pub question_of : QuestionView → Question
question_of question_view = record {
  length = question_view.length;
  bound = question_view.bound;
  tasks = map (option_map plain_rows) question_view.tasks;
}

-- the three counters are right: tasks, rows of delivered tasks, and confirmed rows among them
pub record HasRightCounters (question_view : QuestionView)
    (total cycles confirmed : ℕ) : Type 0 where
  pub tasks : total ≡ length question_view.tasks
  pub rows : cycles ≡ cycles_of (question_of question_view)
  pub found : confirmed ≡ confirmed_of (question_of question_view)

-- each row has the dependencies that its numbers name in this trace
abbrev pub HasNamedRows : Trace → QuestionView → Type 0
HasNamedRows s question_view = (task : ℕ) (rows : List PrintedRow) →
    slice_get question_view.tasks task ≡ Some (Some rows) → AreNamed s rows
