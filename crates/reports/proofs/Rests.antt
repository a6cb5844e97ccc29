-- What is left of the text of rows.
use Rattle.std.proofs.Common.{◌≡◌, ℕ, ◌+◌, ◌≤◌, ◌<◌, List, [], ◌∷◌, ◌++◌, length, get_or, drop, flat_map, Vec, refl, sym, ap, ◌∙◌, arith, append-nil, append_assoc, length-append}
use Rattle.std.specs.declared.alloc.Global.{Global}
use Rattle.std.proofs.lemmas.List.{drop_more, drop_all}
use Rattle.std.proofs.lemmas.List.Concat.{flat_map-cons}
use Rattle.std.proofs.lemmas.List.Folds.{length-flat_map-take}
use Rattle.reports.specs.Printed.{PrintedRow}
use Rattle.reports.specs.Text.{row_front, row_text, witness_end}
use Rattle.reports.specs.Remaining.{rest_at, rest_of_row, rest_of_rows}
use Rattle.reports.specs.declared.row_cursor.Part.{Part}
use Rattle.reports.specs.declared.row_cursor.Part.TheVariants.{Front}

abbrev task_text : Vec PrintedRow Global → List ℕ
task_text task = flat_map row_text task.items

-- Before its first row a task is left whole.
pub rows_fresh : (rows : List PrintedRow) → rest_of_rows rows (Front 0) ≡ flat_map row_text rows
rows_fresh [] = refl
rows_fresh (row ∷ rows) = sym (flat_map-cons row_text row rows)

pub tasks_fresh : (tasks : List (Vec PrintedRow Global)) → rest_at tasks 0 (Front 0) ≡ flat_map task_text tasks
tasks_fresh [] = refl
tasks_fresh (task ∷ tasks) = ap (λ text. text ++ flat_map task_text tasks) (rows_fresh task.items) ∙ sym (flat_map-cons task_text task tasks)

-- A row is left, and the rows after it.
pub row_left : (rows : List PrintedRow) (k : ℕ) (row : PrintedRow) (part : Part) → k < length rows → row ≡ get_or rows k row →
    rest_of_rows (drop k rows) part ≡ rest_of_row row part ++ flat_map row_text (drop (k + 1) rows)
row_left rows k row part l is =
    ap (λ rs. rest_of_rows rs part) (drop_more rows k row l) ∙ ap (λ r. rest_of_row r part ++ flat_map row_text (drop (k + 1) rows)) (sym is)

-- The row goes on with this part, or the next row follows.
pub part_put : (rows : List PrintedRow) (k : ℕ) (row : PrintedRow) (part next : Part) (piece : List ℕ) → k < length rows → row ≡ get_or rows k row →
    rest_of_row row part ≡ piece ++ rest_of_row row next → rest_of_rows (drop k rows) part ≡ piece ++ rest_of_rows (drop k rows) next
part_put rows k row part next piece l is put =
    let rest = flat_map row_text (drop (k + 1) rows) in
    row_left rows k row part l is ∙ ap (λ text. text ++ rest) put ∙ append_assoc piece (rest_of_row row next) rest
    ∙ ap (λ text. piece ++ text) (sym (row_left rows k row next l is))

pub row_put : (rows : List PrintedRow) (k : ℕ) (row : PrintedRow) (part : Part) (piece : List ℕ) → k < length rows → row ≡ get_or rows k row →
    rest_of_row row part ≡ piece ++ [] → rest_of_rows (drop k rows) part ≡ piece ++ rest_of_rows (drop (k + 1) rows) (Front 0)
row_put rows k row part piece l is put =
    row_left rows k row part l is ∙ (λ i. (put ∙ append-nil piece) i ++ sym (rows_fresh (drop (k + 1) rows)) i)

-- A task is left, and the tasks after it.
pub task_left : (tasks : List (Vec PrintedRow Global)) (k row : ℕ) (task : Vec PrintedRow Global) (part : Part) → k < length tasks → task ≡ get_or tasks k task →
    rest_at (drop k tasks) row part ≡ rest_of_rows (drop row task.items) part ++ flat_map task_text (drop (k + 1) tasks)
task_left tasks k row task part l is =
    ap (λ ts. rest_at ts row part) (drop_more tasks k task l)
    ∙ ap (λ (t : Vec PrintedRow Global). rest_of_rows (drop row t.items) part ++ flat_map task_text (drop (k + 1) tasks)) (sym is)

pub task_put : (tasks : List (Vec PrintedRow Global)) (k row row' : ℕ) (task : Vec PrintedRow Global) (part part' : Part) (piece : List ℕ) → k < length tasks → task ≡ get_or tasks k task →
    rest_of_rows (drop row task.items) part ≡ piece ++ rest_of_rows (drop row' task.items) part' → rest_at (drop k tasks) row part ≡ piece ++ rest_at (drop k tasks) row' part'
task_put tasks k row row' task part part' piece l is put =
    let rest = flat_map task_text (drop (k + 1) tasks) in
    task_left tasks k row task part l is ∙ ap (λ text. text ++ rest) put ∙ append_assoc piece (rest_of_rows (drop row' task.items) part') rest
    ∙ ap (λ text. piece ++ text) (sym (task_left tasks k row' task part' l is))

-- A task whose rows are written is followed by the next task.
pub task_done : (tasks : List (Vec PrintedRow Global)) (k row : ℕ) (task : Vec PrintedRow Global) (part : Part) → k < length tasks → task ≡ get_or tasks k task → length task.items ≤ row →
    rest_at (drop k tasks) row part ≡ rest_at (drop (k + 1) tasks) 0 (Front 0)
task_done tasks k row task part l is over =
    task_left tasks k row task part l is
    ∙ ap (λ rows. rest_of_rows rows part ++ flat_map task_text (drop (k + 1) tasks)) (drop_all row task.items over)
    ∙ sym (tasks_fresh (drop (k + 1) tasks))

pub tasks_done : (tasks : List (Vec PrintedRow Global)) (k row : ℕ) (part : Part) → length tasks ≤ k → rest_at (drop k tasks) row part ≡ []
tasks_done tasks k row part over = ap (λ ts. rest_at ts row part) (drop_all k tasks over)

-- The front of a row is not longer than the rows, and these not longer than all tasks.
pub front_within : (rows : List PrintedRow) (k : ℕ) (row : PrintedRow) (most : ℕ) → k < length rows → row ≡ get_or rows k row → length (flat_map row_text rows) ≤ most → length (row_front row) ≤ most
front_within rows k row most l is few =
    omega (arith, few, length-flat_map-take row_text rows k row l, ap (λ r. length (row_text r)) is, length-append (row_front row) (witness_end row.row.found))

pub task_within : (tasks : List (Vec PrintedRow Global)) (k : ℕ) (task : Vec PrintedRow Global) (most : ℕ) → k < length tasks → task ≡ get_or tasks k task → length (flat_map task_text tasks) ≤ most →
    length (task_text task) ≤ most
task_within tasks k task most l is few = omega (arith, few, length-flat_map-take task_text tasks k task l, ap (λ (t : Vec PrintedRow Global). length (task_text t)) is)
