-- One more element of a list that is written one by one.
use Rattle.std.proofs.Common.{◌≡◌, ℕ, List, [], ◌∷◌, ◌++◌, append_assoc, map, sym, ap, ◌∙◌}
use Rattle.std.specs.Global.{Vec}
use Rattle.std.specs.List.{flat_map}
use Rattle.std.proofs.lemmas.List.{append-nil, map-append}
use Rattle.std.proofs.lemmas.List.Concat.{flat_map-cons}
use Rattle.std.proofs.lemmas.Grind.{flat_map-append}
use Rattle.trace_model.specs.Theory.Trace.{Trace}
use Rattle.trace_model.specs.Theory.Dependencies.{dependencies}
use Rattle.trace_model.specs.Theory.Rows.{Row}
use Rattle.reports.specs.Printed.{PrintedRow, with_dependencies}
use Rattle.reports.specs.Text.{row_text}
use Rattle.offline_report.specs.Offline.{rows_text, tasks_rows_text}

pub added : {X : Type 0} (text : X → List ℕ) (xs : List X) (x : X) → flat_map text (xs ++ x ∷ []) ≡ flat_map text xs ++ text x
added text xs x = flat_map-append text xs (x ∷ []) ∙ ap (λ l. flat_map text xs ++ l) (flat_map-cons text x [] ∙ append-nil (text x))

module _ (s : Trace) where
  abbrev printed : Row → PrintedRow
  printed row = with_dependencies (dependencies s) row

  -- The text of one more row, and of a row with rows before and after it.
  pub row_added : (rows : List Row) (row : Row) → rows_text s (rows ++ row ∷ []) ≡ rows_text s rows ++ row_text (printed row)
  row_added rows row = ap (flat_map row_text) (map-append printed rows (row ∷ [])) ∙ added row_text (map printed rows) (printed row)

  pub row_amid : (rows : List Row) (row : Row) (others : List Row) → rows_text s (rows ++ row ∷ others) ≡ (rows_text s rows ++ row_text (printed row)) ++ rows_text s others
  row_amid rows row others =
      ap (flat_map row_text) (map-append printed rows (row ∷ others)) ∙ flat_map-append row_text (map printed rows) (printed row ∷ map printed others)
      ∙ ap (λ (l : List ℕ). rows_text s rows ++ l) (flat_map-cons row_text (printed row) (map printed others))
      ∙ sym (append_assoc (rows_text s rows) (row_text (printed row)) (rows_text s others))

  abbrev task_text : Vec Row → List ℕ
  task_text task = rows_text s task.items

  -- The text of the rows of one more task, and of a task with tasks before and after it.
  pub task_added : (tasks : List (Vec Row)) (task : Vec Row) → tasks_rows_text s (tasks ++ task ∷ []) ≡ tasks_rows_text s tasks ++ rows_text s task.items
  task_added tasks task = added task_text tasks task

  pub task_amid : (tasks : List (Vec Row)) (task : Vec Row) (others : List (Vec Row)) →
      tasks_rows_text s (tasks ++ task ∷ others) ≡ (tasks_rows_text s tasks ++ rows_text s task.items) ++ tasks_rows_text s others
  task_amid tasks task others =
      flat_map-append task_text tasks (task ∷ others)
      ∙ ap (λ (l : List ℕ). tasks_rows_text s tasks ++ l) (flat_map-cons task_text task others)
      ∙ sym (append_assoc (tasks_rows_text s tasks) (rows_text s task.items) (tasks_rows_text s others))
