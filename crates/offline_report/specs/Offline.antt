-- The report on a whole list of events.
use Rattle.std.specs.Prelude.{◌≡◌, ℕ, ◌<◌, ◌≤◌, ◌-◌, ◌^◌, List, ◌++◌, length, map, slice_get, sum_by, count_by, true, Option, Some, MatchOption, Result, IfOk, MatchResult}
use Rattle.std.specs.Global.{Vec}
use Rattle.std.specs.List.{All, AllZip, flat_map}
use Rattle.trace_model.specs.declared.limits.TheConstants.{MAX_REPORT, MAX_CYCLES}
use Rattle.trace_model.specs.Theory.Trace.{Trace}
use Rattle.trace_model.specs.Theory.Lawful.{IsWellFormed}
use Rattle.trace_model.specs.Theory.Dependencies.{dependencies}
use Rattle.trace_model.specs.Theory.Rows.{Row, AreRows, IsRow}
use Rattle.trace_model.specs.Theory.Cycles.{IsCycle}
use Rattle.wellformed.specs.FirstUnlawful.{IsFirstUnlawful}
use Rattle.reports.specs.Printed.{PrintedRow, with_dependencies}
use Rattle.reports.specs.Text.{about, counts, report, row_text, is_confirmed_row}
use Rattle.cycle_search.specs.CycleSearch.{AreSome, CycleFrom, MoreThan}
use Rattle.findings.specs.Collecting.{AreRowsOfCycles, AreSomeRows}
use Rattle.offline_report.specs.Parts.{PartView}
use Rattle.offline_report.specs.declared.parts.ReportRows.{ReportRows}
use Rattle.offline_report.specs.declared.refused.OfflineRefused.{OfflineRefused}
use Rattle.offline_report.specs.declared.refused.OfflineRefused.TheVariants.{Unlawful, TooLong, TooManyCycles, NoMemory}

-- The rows of each task, in the order of the tasks.
pub record AreTasks (s : Trace) (bound : ℕ) (tasks : List (List Row)) : Type 0 where
  pub total : length tasks ≡ length (dependencies s)
  pub each : (task : ℕ) (rows : List Row) → slice_get tasks task ≡ Some rows →
      AreRows s bound task rows

-- The report of question 0 on all events, with these tasks.
unfoldable pub report_of : Trace → ℕ → List (List Row) → List ℕ
report_of s bound tasks =
    report 0 (length s) bound
    (map (with_dependencies (dependencies s)) (flat_map (λ rows. rows) tasks))

-- The text is the report with exactly the rows of the trace.
abbrev pub IsReport : Trace → ℕ → List ℕ → Type 0
IsReport s bound text = IsWellFormed s
    × ((tasks : List (List Row)) × AreTasks s bound tasks × (text ≡ report_of s bound tasks))

-- Rows of different cycles up to the bound, each exact, in lexicographic order.
pub record AreExactRows (s : Trace) (bound : ℕ) (rows : List Row) : Type 0 where
  pub cycles : AreSome (IsCycle (dependencies s) bound) (map (λ row. row.cycle) rows)
  pub exact : All (IsRow s) rows

-- The report is too long: one with some of its rows is, and so is each one with all of them.
pub record IsTooLong (s : Trace) (bound : ℕ) : Type 0 where
  pub rows : List Row
  pub exact : AreExactRows s bound rows
  pub over : MAX_REPORT < length (report 0 (length s) bound
      (map (with_dependencies (dependencies s)) rows))
  pub every : (tasks : List (List Row)) → AreTasks s bound tasks →
      MAX_REPORT < length (report_of s bound tasks)

-- The reason for which there is no report applies.
abbrev pub IsOfflineRefusal : Trace → ℕ → OfflineRefused → Type 0
IsOfflineRefusal s bound (Unlawful first) = IsFirstUnlawful s first
IsOfflineRefusal s bound TooLong = IsWellFormed s × IsTooLong s bound
IsOfflineRefusal s bound TooManyCycles = IsWellFormed s
    × ((task : ℕ) × MoreThan (CycleFrom (dependencies s) bound task) MAX_CYCLES)
IsOfflineRefusal s bound NoMemory = Unit {0}

-- ---- the parts

-- The reason for which events are not admitted applies.
abbrev pub IsNotAdmitted : Trace → OfflineRefused → Type 0
IsNotAdmitted s (Unlawful first) = IsFirstUnlawful s first
IsNotAdmitted s TooLong = ⊥
IsNotAdmitted s TooManyCycles = ⊥
IsNotAdmitted s NoMemory = Unit {0}

-- The reason for which a task is not computed applies.
abbrev pub IsNotComputed : OfflineRefused → Type 0
IsNotComputed (Unlawful first) = ⊥
IsNotComputed TooLong = ⊥
IsNotComputed TooManyCycles = ⊥
IsNotComputed NoMemory = Unit {0}

-- The number of bytes of a text. It is exact if it is not more than those of the longest report.
pub record IsSize (n : ℕ) (text : List ℕ) : Type 0 where
  pub least : n ≤ length text
  pub exact : n ≤ MAX_REPORT → n ≡ length text

-- These rows without the dependencies of their members, the number of bytes of their texts, and the
-- number of confirmed rows.
pub record HasRows (rows : List PrintedRow) (kept : List Row) (size certain : ℕ) : Type 0 where
  pub plain : kept ≡ map (λ p. p.row) rows
  pub bytes : IsSize size (flat_map row_text rows)
  pub confirmed : certain ≡ count_by is_confirmed_row rows

-- The rows of a part, and the number of bytes of their texts.
abbrev pub part_rows : PartView → List Row
part_rows part = part.rows

abbrev pub size_of : PartView → ℕ
size_of part = part.bytes

-- The part of these rows.
abbrev pub IsPartOf : List PrintedRow → PartView → Type 0
IsPartOf rows part = HasRows rows part.rows part.bytes part.confirmed

-- The rows are some of the task, and all of them if the part is whole.
pub record AreInPart (s : Trace) (bound task : ℕ) (rows : List PrintedRow) (part : PartView) :
    Type 0 where
  pub some : AreSomeRows s (CycleFrom (dependencies s) bound task) rows
  pub whole : part.is_whole ≡ true → AreRowsOfCycles s (CycleFrom (dependencies s) bound task) rows

-- The part of a task, or a reason that applies.
abbrev pub IsTask : Trace → ℕ → ℕ → Result PartView OfflineRefused → Type 0
IsTask s bound task result =
    MatchResult result (λ part. (rows : List PrintedRow) × AreInPart s bound task rows part
    × IsPartOf rows part) IsNotComputed

-- The part of a task whose text is written within a limit. Without a limit it is whole.
abbrev pub IsTaskWithin : Trace → ℕ → ℕ → ℕ → Result PartView OfflineRefused → Type 0
IsTaskWithin s bound limit task result = IsTask s bound task result
    × (limit ≡ 2 ^ 64 - 1 → IfOk result (λ part. part.is_whole ≡ true))

-- The rows of the parts of the first `n` tasks.
pub record AreComputed (s : Trace) (bound n : ℕ) (tasks : List (List PrintedRow))
    (parts : List PartView) : Type 0 where
  pub total : length tasks ≡ n
  pub each : (task : ℕ) (rows : List PrintedRow) → slice_get tasks task ≡ Some rows →
      (part : PartView) × (slice_get parts task ≡ Some part) × AreInPart s bound task rows part
  pub written : AllZip IsPartOf tasks parts

-- The parts of all tasks.
abbrev pub AreTextParts : Trace → ℕ → List PartView → Type 0
AreTextParts s bound parts =
    (tasks : List (List PrintedRow)) × AreComputed s bound (length (dependencies s)) tasks parts

-- Each part has all rows of its task.
abbrev pub AreWhole : List PartView → Type 0
AreWhole parts = All (λ part. part.is_whole ≡ true) parts

-- The parts of all tasks whose texts are written within a limit, or a reason that applies. Without
-- a limit each part is whole.
abbrev pub ArePartsWithin : Trace → ℕ → ℕ → Result (Vec PartView) OfflineRefused → Type 0
ArePartsWithin s bound limit result = MatchResult result (λ parts. AreTextParts s bound parts.items
    × (limit ≡ 2 ^ 64 - 1 → AreWhole parts.items)) IsNotComputed

-- The parts of all tasks, each with all rows unless they are too long together; or a reason that
-- applies.
abbrev pub AreAllParts : Trace → ℕ → Result (Vec PartView) OfflineRefused → Type 0
AreAllParts s bound result = MatchResult result (λ parts. AreTextParts s bound parts.items
    × (sum_by size_of parts.items ≤ MAX_REPORT → AreWhole parts.items)) IsNotComputed

-- The text of all rows of the tasks.
abbrev pub tasks_text : List (List PrintedRow) → List ℕ
tasks_text tasks = flat_map (λ rows. flat_map row_text rows) tasks

-- The report of question 0 with the rows of all tasks.
unfoldable pub tasks_report : ℕ → ℕ → List (List PrintedRow) → List ℕ
tasks_report events bound tasks = report 0 events bound (flat_map (λ rows. rows) tasks)

-- The rows of each task.
abbrev pub rows_by_task : List (Vec Row) → List (List Row)
rows_by_task tasks = map (λ task. task.items) tasks

-- The first line of the report of question 0 with these rows.
abbrev pub first_line_of : ℕ → ℕ → List PrintedRow → List ℕ
first_line_of events bound rows =
    about 0 events bound ++ counts (length rows) (count_by is_confirmed_row rows)

-- The rows of the trace, with the dependencies of their members.
abbrev pub printed_rows : Trace → List Row → List PrintedRow
printed_rows s rows = map (with_dependencies (dependencies s)) rows

-- The text of rows of the trace.
abbrev pub rows_text : Trace → List Row → List ℕ
rows_text s rows = flat_map row_text (printed_rows s rows)

-- The text of rows of the trace, task by task.
abbrev pub tasks_rows_text : Trace → List (Vec Row) → List ℕ
tasks_rows_text s tasks = flat_map (λ task. rows_text s task.items) tasks

-- The rows of the report and its first line. The report is not too long.
pub record IsReportRows (s : Trace) (bound : ℕ) (found : ReportRows) : Type 0 where
  pub well_formed : IsWellFormed s
  pub tasks : AreTasks s bound (rows_by_task found.tasks.items)
  pub first_line : found.first_line.items ≡ first_line_of (length s) bound
      (printed_rows s (flat_map (λ rows. rows) (rows_by_task found.tasks.items)))
  pub short : length (report_of s bound (rows_by_task found.tasks.items)) ≤ MAX_REPORT

-- The rows of the parts, and the first line of the report on them, or `None` if the report is too
-- long.
abbrev pub AreReportRowsOf : ℕ → ℕ → List (List PrintedRow) → Option ReportRows → Type 0
AreReportRowsOf events bound tasks found =
    MatchOption found (MAX_REPORT < length (tasks_report events bound tasks))
    (λ r. (rows_by_task r.tasks.items ≡ map (λ rows. map (λ p. p.row) rows) tasks)
    × (r.first_line.items ≡ first_line_of events bound (flat_map (λ rows. rows) tasks))
    × (length (tasks_report events bound tasks) ≤ MAX_REPORT))
