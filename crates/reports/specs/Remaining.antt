-- What is left of a text that is written in pieces.
use Rattle.std.specs.Prelude.{ℕ, ◌-◌, nat_le, if◌then◌else◌, List, [], ◌∷◌, ◌++◌, drop, codes, Option, Some, None, Vec}
use Rattle.std.specs.List.{flat_map}
use Rattle.std.specs.declared.alloc.Global.{Global}
use Rattle.trace_model.specs.Theory.Rows.{Evidence}
use Rattle.reports.specs.Printed.{PrintedRow}
use Rattle.reports.specs.Text.{number_list, row_front, row_text, run_text, witness_end}
use Rattle.reports.specs.declared.row_cursor.Run.{Run}
use Rattle.reports.specs.declared.row_cursor.Part.{Part}
use Rattle.reports.specs.declared.row_cursor.Part.TheVariants.{Front, Witness}
use Rattle.reports.specs.declared.row_cursor.RowCursor.{RowCursor}

-- The places from the first one on that is not less than `at`.
abbrev pub places_from : ℕ → List ℕ → List ℕ
places_from at [] = []
places_from at (p ∷ places) = if nat_le at p then p ∷ places else places_from at places

-- The places of the run, those of the witness after it, and the end of their line.
abbrev pub rest_of_witness : Evidence → Run → List ℕ
rest_of_witness found run = run_text run.next (run.end - run.next) ++
    (number_list (places_from run.end found.witness) ++ codes "\n")

-- The witness is written, or this run of it is next.
abbrev pub after_run : Evidence → Option Run → List ℕ
after_run found None = []
after_run found (Some run) = rest_of_witness found run

-- The rest of a row that is confirmed or not, in its witness.
abbrev pub rest_in_witness : Option Evidence → Run → List ℕ
rest_in_witness None run = []
rest_in_witness (Some found) run = rest_of_witness found run

-- The rest of a row.
abbrev pub rest_of_row : PrintedRow → Part → List ℕ
rest_of_row row (Front from) = drop from (row_front row) ++ witness_end row.row.found
rest_of_row row (Witness run) = rest_in_witness row.row.found run

-- The row is written, or this part of it is next.
abbrev pub after_part : PrintedRow → Option Part → List ℕ
after_part row None = []
after_part row (Some part) = rest_of_row row part

-- The rest of the first row, and the rows after it.
abbrev pub rest_of_rows : List PrintedRow → Part → List ℕ
rest_of_rows [] part = []
rest_of_rows (row ∷ rows) part = rest_of_row row part ++ flat_map row_text rows

-- The rest of the first task, whose rows before this one are written, and the tasks after it.
abbrev pub rest_at : List (Vec PrintedRow Global) → ℕ → Part → List ℕ
rest_at [] row part = []
rest_at (task ∷ tasks) row part = rest_of_rows (drop row task.items) part ++
    flat_map (λ t. flat_map row_text t.items) tasks

-- The rest of the rows of all tasks.
abbrev pub rest_text : List (Vec PrintedRow Global) → RowCursor → List ℕ
rest_text tasks cursor = rest_at (drop cursor.task tasks) cursor.row cursor.part
