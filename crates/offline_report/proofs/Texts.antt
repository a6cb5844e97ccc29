-- The report on all tasks, from their parts.
use Rattle.std.proofs.Common.{◌≡◌, ℕ, ◌+◌, ◌<◌, ◌≤◌, List, ◌++◌, length, flat_map, sum_by, sym, ap, ◌∙◌, arith, length-append, append_assoc}
use Rattle.std.specs.List.{AllZip}
use Rattle.std.proofs.lemmas.List.Concat.{length-flat_map}
use Rattle.trace_model.specs.declared.limits.TheConstants.{MAX_REPORT}
use Rattle.reports.specs.Printed.{PrintedRow}
use Rattle.reports.specs.Text.{about, counts, is_confirmed_row}
use Rattle.reports.proofs.Counting.{count_by-flat_map, confirmed_within, report_by_tasks, rows_within}
use Rattle.offline_report.specs.Offline.{IsPartOf, first_line_of, part_rows, size_of, tasks_report, tasks_text}
use Rattle.offline_report.specs.Parts.{PartView}
use Rattle.offline_report.proofs.Sizes.{confirmed_are, cycles_are, sizes_are}

module _ (events bound : ℕ) (tasks : List (List PrintedRow)) (parts : List PartView) (written : AllZip IsPartOf tasks parts) where
  -- The text before the rows.
  abbrev head : List ℕ
  head = about 0 events bound ++ counts (sum_by (λ part. length (part_rows part)) parts) (sum_by (λ part. part.confirmed) parts)

  pub head_is : head ≡ first_line_of events bound (flat_map (λ rows. rows) tasks)
  head_is =
      let rows : List PrintedRow → List PrintedRow = λ rows. rows in
      let cycles = cycles_are tasks parts written ∙ sym (length-flat_map rows tasks) in
      let confirmed = confirmed_are tasks parts written ∙ sym (count_by-flat_map is_confirmed_row rows tasks) in
      λ i. about 0 events bound ++ counts (cycles i) (confirmed i)

  report_is : tasks_report events bound tasks ≡ head ++ tasks_text tasks
  unfolding tasks_report
  report_is =
      let rows : List PrintedRow → List PrintedRow = λ rows. rows in
      let cycles = cycles_are tasks parts written ∙ sym (length-flat_map rows tasks) in
      let confirmed = confirmed_are tasks parts written ∙ sym (count_by-flat_map is_confirmed_row rows tasks) in
      report_by_tasks 0 events bound rows tasks
      ∙ (λ i. about 0 events bound ++ (counts (sym cycles i) (sym confirmed i) ++ tasks_text tasks))
      ∙ sym (append_assoc (about 0 events bound) (counts (sum_by (λ part. length (part_rows part)) parts) (sum_by (λ part. part.confirmed) parts)) (tasks_text tasks))

  length_is : length (tasks_report events bound tasks) ≡ length head + length (tasks_text tasks)
  length_is = ap length report_is ∙ length-append head (tasks_text tasks)

  -- If the sizes leave a rest, they are exact.
  exactly : (rest : ℕ) → rest + sum_by size_of parts ≡ MAX_REPORT → sum_by size_of parts ≡ length (tasks_text tasks)
  exactly rest left = (sizes_are tasks parts written).exact (omega (arith, left))

  -- The texts of the rows are too long.
  pub over_rows : MAX_REPORT < sum_by size_of parts → MAX_REPORT < length (tasks_report events bound tasks)
  over_rows over = omega (arith, length_is, (sizes_are tasks parts written).least, over)

  -- There is no room for the text before them.
  pub over_head : (text : List ℕ) (rest : ℕ) → text ≡ head → rest + sum_by size_of parts ≡ MAX_REPORT → rest < length text → MAX_REPORT < length (tasks_report events bound tasks)
  over_head text rest is left short = omega (arith, length_is, left, short, ap length is, exactly rest left)

  pub is_short : (text : List ℕ) (rest : ℕ) → text ≡ head → rest + sum_by size_of parts ≡ MAX_REPORT → length text ≤ rest → length (tasks_report events bound tasks) ≤ MAX_REPORT
  is_short text rest is left room = omega (arith, length_is, left, room, ap length is, exactly rest left)

  -- If the report is not too long, the texts of the rows are not.
  pub fitting : length (tasks_report events bound tasks) ≤ MAX_REPORT → sum_by size_of parts ≤ MAX_REPORT
  fitting short = omega (arith, length_is, (sizes_are tasks parts written).least, short)

  -- There are at most as many rows as bytes.
  pub cycles_within : (rest : ℕ) → rest + sum_by size_of parts ≡ MAX_REPORT → sum_by (λ part. length (part_rows part)) parts ≤ MAX_REPORT
  cycles_within rest left =
      omega (arith, left, exactly rest left, cycles_are tasks parts written, rows_within (λ rows. rows) tasks)

  pub confirmed_few : (rest : ℕ) → rest + sum_by size_of parts ≡ MAX_REPORT → sum_by (λ part. part.confirmed) parts ≤ MAX_REPORT
  confirmed_few rest left =
      omega (arith, left, exactly rest left, confirmed_are tasks parts written, confirmed_within is_confirmed_row (λ rows. rows) tasks)
