-- The counts of a question.
use Rattle.std.proofs.Common.{◌≡◌, ℕ, zero, suc, ◌+◌, ◌*◌, ◌≤◌, cond, List, [], ◌∷◌, length, map, replicate, slice_get, slice_set, option_map, Option, Some, None, refl, sym, ap, ◌∙◌, arith}
use Rattle.std.proofs.lemmas.List.{length-map, length-replicate, map-set}
use Rattle.std.proofs.Math.ListN.{length-set}
use Rattle.std.proofs.lemmas.List.Sums.{sum_by-cons, sum_by-le-sum_by, count_by-le-length}
use Rattle.std.proofs.lemmas.Option.{none-some, same_Some, slice_get-map}
use Rattle.std.specs.List.{count_by, sum_by}
use Rattle.trace_model.specs.declared.limits.TheConstants.{MAX_CYCLES}
use Rattle.trace_model.specs.Theory.Rows.{Row}
use Rattle.trace_model.specs.Protocol.Machine.{Question, cycles_of, confirmed_of, is_confirmed, rows_of}
use Rattle.trace_model.proofs.Protocol.Summary.{sum_delivered}
use Rattle.reports.specs.Printed.{PrintedRow}
use Rattle.reports.specs.Text as Text
use Rattle.result_ledger.specs.Tasks.{Tasks}
use Rattle.sequencer.specs.QuestionState.{QuestionView, plain_rows, HasRightCounters}

-- ---- of each task what is printed, and the machine's rows

pub confirmed_rows : (rows : List PrintedRow) → count_by is_confirmed (plain_rows rows) ≡ count_by Text.is_confirmed_row rows
confirmed_rows [] = refl
confirmed_rows (p ∷ rows) =
    omega (arith, confirmed_rows rows, sum_by-cons (λ r. cond (is_confirmed r) 1 0) p.row (plain_rows rows), sum_by-cons (λ r. cond (Text.is_confirmed_row r) 1 0) p rows)

-- ---- a task that is missing

pub row_at : (tasks : Tasks) (task : ℕ) (o : Option (Option (List PrintedRow))) → slice_get tasks task ≡ o → slice_get (map (option_map plain_rows) tasks) task ≡ option_map (option_map plain_rows) o
row_at tasks task o h = slice_get-map (option_map plain_rows) tasks task ∙ ap (option_map (option_map plain_rows)) h

pub missing_row : (tasks : Tasks) (task : ℕ) → slice_get tasks task ≡ Some None → slice_get (map (option_map plain_rows) tasks) task ≡ Some None
missing_row tasks task h = row_at tasks task (Some None) h

pub row_missing : (tasks : Tasks) (task : ℕ) → slice_get (map (option_map plain_rows) tasks) task ≡ Some None → slice_get tasks task ≡ Some None
row_missing tasks task h = go (slice_get tasks task) refl
  where
    go : (o : Option (Option (List PrintedRow))) → slice_get tasks task ≡ o → o ≡ Some None
    go None e = absurd (none-some None (sym (ap (option_map (option_map plain_rows)) e) ∙ (sym (slice_get-map (option_map plain_rows) tasks task) ∙ h)))
    go (Some None) e = refl
    go (Some (Some rows)) e =
        let clash : Some (Some (plain_rows rows)) ≡ Some None = sym (ap (option_map (option_map plain_rows)) e) ∙ (sym (slice_get-map (option_map plain_rows) tasks task) ∙ h) in
        absurd (none-some (plain_rows rows) (sym (same_Some (Some (plain_rows rows)) None clash)))

-- ---- the counts

pub opened_counts : (length bound total : ℕ) → HasRightCounters (record { length = length; bound = bound; tasks = replicate total None }) total 0 0
opened_counts n bound total = record { tasks = sym (length-replicate total None); rows = none (λ x. length (rows_of x)) total refl; found = none (λ x. count_by is_confirmed (rows_of x)) total refl }
  where
    none : (f : Option (List Row) → ℕ) (n : ℕ) → f None ≡ 0 → 0 ≡ sum_by f (map (option_map plain_rows) (replicate n None))
    none f zero z = refl
    none f (suc n) z = omega (arith, z, none f n z, sum_by-cons f None (map (option_map plain_rows) (replicate n None)))

pub view_counts : (question_view : QuestionView) (total cycles confirmed task : ℕ) (rows : List PrintedRow) → slice_get question_view.tasks task ≡ Some None → HasRightCounters question_view total cycles confirmed →
    HasRightCounters (record question_view { tasks = slice_set question_view.tasks task (Some rows) }) total (cycles + length rows) (confirmed + count_by Text.is_confirmed_row rows)
view_counts question_view total cycles confirmed task rows h c =
    let moved = map-set (option_map plain_rows) question_view.tasks task (Some rows) in
    let before = map (option_map plain_rows) question_view.tasks in
    let m = missing_row question_view.tasks task h in
    record {
      tasks = c.tasks ∙ sym (length-set question_view.tasks task (Some rows));
      rows = omega (arith, c.rows, ap (sum_by (λ x. length (rows_of x))) moved, sum_delivered (λ x. length (rows_of x)) before task (plain_rows rows) refl m, length-map rows (λ p. p.row));
      found = omega (arith, c.found, ap (sum_by (λ x. count_by is_confirmed (rows_of x))) moved, sum_delivered (λ x. count_by is_confirmed (rows_of x)) before task (plain_rows rows) refl m, confirmed_rows rows);
    }

pub cycles_most : (tasks : List (Option (List Row))) → ((task : ℕ) (rows : List Row) → slice_get tasks task ≡ Some (Some rows) → length rows ≤ MAX_CYCLES) →
    sum_by (λ x. length (rows_of x)) tasks ≤ MAX_CYCLES * length tasks
cycles_most [] h = omega arith
cycles_most (None ∷ tasks) h =
    omega (arith, cycles_most tasks (λ task rows e. h (suc task) rows e), sum_by-cons (λ x. length (rows_of x)) None tasks)
cycles_most (Some rows ∷ tasks) h =
    omega (arith, h zero rows refl, cycles_most tasks (λ task r e. h (suc task) r e), sum_by-cons (λ x. length (rows_of x)) (Some rows) tasks)

pub confirmed_fewer : (q : Question) → confirmed_of q ≤ cycles_of q
confirmed_fewer q = sum_by-le-sum_by (λ x. count_by is_confirmed (rows_of x)) (λ x. length (rows_of x)) q.tasks (λ x. count_by-le-length is_confirmed (rows_of x))

-- ---- what refuses a task
