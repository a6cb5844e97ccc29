-- What `explain` prints (this project's profile).
use Rattle.std.specs.Prelude.{◌≡◌, ℕ, ◌<◌, ◌≤◌, ◌^◌, ◌⊎◌, List, ◌++◌, codes, decimal, length, map, slice_get, take, Option, Some, None, Result, Ok, Err, MatchOption}
use Rattle.std.specs.List.{All, AllZip, Contains, flat_map}
use Rattle.trace_model.specs.declared.refutations.RefutationStep.{RefutationStep}
use Rattle.trace_model.specs.declared.limits.TheConstants.{MAX_CYCLES}
use Rattle.trace_model.specs.declared.refusal.Refusal.TheVariants.{TooManyCycles}
use Rattle.trace_model.specs.Theory.Trace.{Trace}
use Rattle.trace_model.specs.Theory.Cycles.{IsCycle}
use Rattle.trace_model.specs.Theory.Dependencies.{dependencies}
use Rattle.trace_model.specs.Theory.Refutation.{IsRefutation}
use Rattle.event_files.specs.Refutations.{refutation_text, label_and_number}
use Rattle.trace_model.specs.Theory.Rows.{Row, IsRow}
use Rattle.std.specs.Global.{Vec}
use Rattle.findings.specs.declared.computing.ComputeRefused.{ComputeRefused}
use Rattle.findings.specs.declared.computing.ComputeRefused.TheVariants.{TooManyCycles as TooManyFound}
use Rattle.commands.specs.declared.refuting.RefutedRow.{RefutedRow}
use Rattle.offline_report.specs.Offline.{AreTasks, first_line_of, printed_rows, rows_by_task}
use Rattle.cycle_search.specs.CycleSearch.{CycleFrom, MoreThan}
use Rattle.event_files.specs.EventFile.{pieces_at}
use Rattle.commands.specs.Admission.{AreLawfulEventsOf, HasBadLine}
use Rattle.commands.specs.Offline.{ReportPrints}
use Rattle.commands.specs.Output.{EndsWithStatus}
use Rattle.commands.specs.Text.{labeled_line, refusal_line}
use Rattle.commands.specs.Replay.{UnlawfulPrints}
use Rattle.commands.specs.declared.exit.Status.{Status}
use Rattle.commands.specs.declared.exit.Status.TheVariants.{Done, Refused, Error, NotUnderstood}
use Rattle.reports.specs.Printed.{PrintedRow, with_dependencies}
use Rattle.reports.specs.Text.{row_text}

-- The row has the dependencies of its numbers.
pub record IsNamedRow (s : Trace) (p : PrintedRow) : Type 0 where
  pub known : (m : ℕ) → Contains p.row.cycle m → m < length (dependencies s)
  pub named : p ≡ with_dependencies (dependencies s) p.row

-- A refutation of the row's cycle, if the row is potential.
abbrev pub HasRefutation : Trace → Row → Option (List RefutationStep) → Type 0
HasRefutation s row refutation = MatchOption row.found
    (MatchOption refutation ⊥ (IsRefutation s row.cycle)) (λ found. refutation ≡ None)

-- The text of a refutation of the row's cycle is appended.
abbrev pub AddsRefutation : Trace → PrintedRow → List ℕ → List ℕ → Type 0
AddsRefutation s p old new = (steps : List RefutationStep) × IsRefutation s p.row.cycle steps
    × (new ≡ old ++ refutation_text (map (λ d. d.thread) p.dependencies) steps)

-- the text of a row, and after a potential one a refutation of its cycle
abbrev pub IsExplanation : Trace → PrintedRow → List ℕ → Type 0
IsExplanation s p text = MatchOption p.row.found (AddsRefutation s p (row_text p) text)
    (λ found. text ≡ row_text p)

-- the texts of these rows, in order
abbrev pub Explains : Trace → List PrintedRow → List ℕ → Type 0
Explains s rows text = (texts : List (List ℕ)) × AllZip (IsExplanation s) rows texts
    × (text ≡ flat_map (λ part. part) texts)

-- the texts of the first of these rows
abbrev pub ExplainsSome : Trace → List PrintedRow → List ℕ → Type 0
ExplainsSome s rows text = (n : ℕ) × Explains s (take n rows) text

-- A row of the trace, with numbers of dependencies.
pub record IsKnownRow (s : Trace) (row : Row) : Type 0 where
  pub exact : IsRow s row
  pub known : (m : ℕ) → Contains row.cycle m → m < length (dependencies s)

-- A row of the trace, with a refutation of its cycle if it is potential.
abbrev pub IsRefutedRow : Trace → RefutedRow → Type 0
IsRefutedRow s r = IsKnownRow s r.row × HasRefutation s r.row r.refutation

-- The rows without the refutations.
abbrev pub bare_rows : List RefutedRow → List Row
bare_rows refuted = map (λ r. r.row) refuted

-- The rows, each with a refutation if it is potential.
pub record AreRefuted (s : Trace) (rows : List Row) (refuted : List RefutedRow) : Type 0 where
  pub plain : bare_rows refuted ≡ rows
  pub each : All (IsRefutedRow s) refuted

-- The rows of all tasks, in order.
abbrev pub all_rows : List (Vec Row) → List Row
all_rows tasks = flat_map (λ rows. rows) (rows_by_task tasks)

-- exactly the rows of the trace, in the order of the tasks
abbrev pub AreRowsOfTrace : Trace → ℕ → List PrintedRow → Type 0
AreRowsOfTrace s bound rows = (tasks : List (List Row)) × AreTasks s bound tasks
    × (rows ≡ printed_rows s (flat_map (λ task. task) tasks))

-- The first line of the report, and then the texts of all rows of the trace.
abbrev pub ExplainsAll : Trace → ℕ → List ℕ → Type 0
ExplainsAll s bound text = (rows : List PrintedRow) × (texts : List ℕ) × AreRowsOfTrace s bound rows
    × Explains s rows texts × (text ≡ first_line_of (length s) bound rows ++ texts)

-- The first line of the report, and then the texts of the first rows of the trace.
abbrev pub ExplainsFirst : Trace → ℕ → List ℕ → Type 0
ExplainsFirst s bound text = (rows : List PrintedRow) × (texts : List ℕ)
    × AreRowsOfTrace s bound rows
    × ExplainsSome s rows texts × (text ≡ first_line_of (length s) bound rows ++ texts)

-- The numbers are a cycle up to the bound, and the text is that of its exact row.
abbrev pub ExplainsCycle : Trace → ℕ → List ℕ → List ℕ → Type 0
ExplainsCycle s bound numbers text = (p : PrintedRow) × (p.row.cycle ≡ numbers)
    × IsCycle (dependencies s) bound numbers × IsRow s p.row
    × (p ≡ with_dependencies (dependencies s) p.row) × IsExplanation s p text

-- ---- refusals

-- the line that says that these numbers are no cycle up to the bound
abbrev pub no_cycle_line : List ℕ → ℕ → List ℕ
no_cycle_line numbers bound = codes "no cycle" ++ flat_map (label_and_number (codes " ")) numbers
    ++ labeled_line (codes " with bound ") bound

-- the line that says that a task has too many cycles
abbrev pub too_many_line : List ℕ
too_many_line = refusal_line TooManyCycles

-- The task has more cycles up to the bound than a finding can hold.
abbrev pub HasTooManyCycles : Trace → ℕ → ℕ → Type 0
HasTooManyCycles s bound task = MoreThan (CycleFrom (dependencies s) bound task) MAX_CYCLES

-- A task has too many cycles. The text is the line of this refusal.
abbrev pub IsTooMany : ComputeRefused → Status → List ℕ → Type 0
IsTooMany refused status text =
    (refused ≡ TooManyFound) × (status ≡ Refused) × (text ≡ too_many_line)

-- The numbers are no cycle up to the bound, or the task of this cycle has too many.
abbrev pub RefusesCycle : Trace → ℕ → List ℕ → List ℕ → Type 0
RefusesCycle s bound numbers text =
    ((IsCycle (dependencies s) bound numbers → ⊥) × (text ≡ no_cycle_line numbers bound))
    ⊎ ((task : ℕ) × (slice_get numbers 0 ≡ Some task) × HasTooManyCycles s bound task
    × (text ≡ too_many_line))

-- ---- the command

-- The text about all cycles is right with this status. It is refused as the report is. With `Error`
-- it has the first rows.
abbrev pub PrintsAllOf : Trace → ℕ → Status → List ℕ → Type 0
PrintsAllOf s bound Done text = ExplainsAll s bound text
PrintsAllOf s bound Refused text = ReportPrints s bound Refused text
PrintsAllOf s bound Error text = ExplainsFirst s bound text
PrintsAllOf s bound NotUnderstood text = ⊥

-- The text about one cycle is right with this status.
abbrev pub PrintsOneOf : Trace → ℕ → List ℕ → Status → List ℕ → Type 0
PrintsOneOf s bound numbers Done text = ExplainsCycle s bound numbers text
PrintsOneOf s bound numbers Refused text = RefusesCycle s bound numbers text
PrintsOneOf s bound numbers Error text = ⊥
PrintsOneOf s bound numbers NotUnderstood text = ⊥

-- The text about the chosen cycles, all or one, is right with this status.
abbrev pub PrintsChosen : Trace → ℕ → Option (List ℕ) → Status → List ℕ → Type 0
PrintsChosen s bound cycle status text = MatchOption cycle (PrintsAllOf s bound status text)
    (λ numbers. PrintsOneOf s bound numbers status text)

-- The text is right with this status: that about the chosen cycles of the file's events, which are
-- lawful, up to the bound; or the line of the first event that is not lawful.
abbrev pub ExplainPrints : List ℕ → ℕ → Option (List ℕ) → Status → List ℕ → Type 0
ExplainPrints file bound cycle status text =
    ((events : Trace) × AreLawfulEventsOf events file × PrintsChosen events bound cycle status text)
    ⊎ UnlawfulPrints file status text

-- What a status says of the output of `explain` on this file.
abbrev pub ExplainTells : List ℕ → ℕ → Option (List ℕ) → Status →
    Option (List ℕ) → Option (List ℕ) → Type 0
ExplainTells file bound cycle status before after =
    EndsWithStatus (ExplainPrints file bound cycle) (HasBadLine file) status before after

-- ---- the option --cycle

-- The words denote these numbers, which fit in 32 bits.
abbrev pub AreNumberWords : List (List ℕ) → List ℕ → Type 0
AreNumberWords words numbers = All (λ n. n < 2 ^ 32) numbers × (map decimal numbers ≡ words)

-- The words name these numbers, 2 to 8, which commas separate.
abbrev pub NamesCycle : List ℕ → List ℕ → Type 0
NamesCycle words numbers = (2 ≤ length numbers) × (length numbers ≤ 8)
    × AreNumberWords (pieces_at 44 words) numbers

-- The words of the option name no cycle.
abbrev pub NamesNone : List ℕ → Type 0
NamesNone words = (numbers : List ℕ) → NamesCycle words numbers → ⊥

-- What the option chooses: all cycles if it is not given, or the one that its words name. If they
-- name none, the command line is not understood.
abbrev pub IsChosen : Option (List ℕ) → Result (Option (List ℕ)) Status → Type 0
IsChosen None chosen = chosen ≡ Ok None
IsChosen (Some words) (Ok None) = ⊥
IsChosen (Some words) (Ok (Some numbers)) = NamesCycle words numbers
IsChosen (Some words) (Err status) = (status ≡ NotUnderstood) × NamesNone words
