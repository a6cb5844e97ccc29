-- The check of explained cycles against a trace (this project's profile).
use Rattle.std.specs.Prelude.{◌≡◌, ◌≢◌, ℕ, ◌≤◌, ◌⊎◌, ◌==◌, ◌&&◌, Bool, true, false, List, [], ◌∷◌, ◌++◌, Option, Some, count_by, length, map, option_to_list, position, unwrap_or, if◌then◌else◌}
use Rattle.std.specs.List.{All, AllZip, flat_map, list_all, zip}
use Rattle.trace_model.specs.declared.refutations.RefutationStep.{RefutationStep}
use Rattle.trace_model.specs.Theory.Trace.{Trace}
use Rattle.trace_model.specs.Theory.Cycles.{IsConfirmed}
use Rattle.event_files.specs.ExplainedFile.{IsExplainedText, RefusesExplained}
use Rattle.event_files.specs.ExplainedText.{Contents, StatedCycle, StatedEvidence, StatedMember, contents_of, is_witness}
use Rattle.event_files.specs.ExplainedText as explained
use Rattle.event_files.specs.declared.explanations.ExplainedFile.{ExplainedFile}
use Rattle.event_files.specs.declared.explanations.ExplainedStep.{ExplainedStep}
use Rattle.event_files.specs.declared.explanations.ReportHead.{ReportHead}
use Rattle.event_files.specs.declared.refused.ExplainedRefused.{ExplainedRefused}
use Rattle.event_files.specs.declared.refused.ExplainedRefused.TheVariants as files
use Rattle.replay.specs.Refuting.{IsRefutationVerdict}
use Rattle.replay.specs.Verdict.{IsVerdict}
use Rattle.replay.specs.declared.refutation_verdict.RefutationVerdict.TheVariants.{Valid, UnknownNumber, WrongStep, AfterEnd, PlaceLeft}
use Rattle.replay.specs.declared.verdict.Verdict.TheVariants.{Reaches, Fails}
use Rattle.commands.specs.Admission.{AreLawfulEventsOf, HasBadLine}
use Rattle.commands.specs.CheckWords.{checked_line, head_verdict_line}
use Rattle.commands.specs.ExplainedRows.{IsRowFault, IsRowOf}
use Rattle.commands.specs.Output.{EndsWithStatus}
use Rattle.commands.specs.Replay.{UnlawfulPrints}
use Rattle.commands.specs.declared.check_verdicts.HeadVerdict.{HeadVerdict}
use Rattle.commands.specs.declared.check_verdicts.HeadVerdict.TheVariants as heads
use Rattle.commands.specs.declared.check_verdicts.CheckedLine.{CheckedLine}
use Rattle.commands.specs.declared.check_verdicts.CycleVerdict.{CycleVerdict}
use Rattle.commands.specs.declared.check_verdicts.CycleVerdict.TheVariants.{Row, Witness, NoRefutation, Refutation}
use Rattle.commands.specs.declared.exit.Status.{Status}
use Rattle.commands.specs.declared.exit.Status.TheVariants.{Done, Refused}

-- ---- the verdict on a cycle

-- The step, with the index of the first member that has its thread, or the number of members.
abbrev pub step_in : List StatedMember → ExplainedStep → RefutationStep
step_in members step = record {
  member = unwrap_or (position (λ m. m.thread == step.thread) members) (length members);
  derivation = step.derivation;
}

-- The steps.
abbrev pub steps_in : List StatedMember → List ExplainedStep → List RefutationStep
steps_in members steps = map (step_in members) steps

-- The verdict is right: the first test of the row that does not hold; or, for a row of the trace,
-- the verdict of the witness against the places of the members, or that of the refutation.
abbrev pub IsVerdictFor : Trace → StatedCycle → CycleVerdict → Type 0
IsVerdictFor s r (Row fault) = IsRowFault s r fault
IsVerdictFor s r (Witness v) = IsRowOf s r × ((order instance : List ℕ)
    × (r.evidence ≡ explained.witness order) × (map (λ m. m.place) r.members ≡ map Some instance)
    × IsVerdict s order instance v)
IsVerdictFor s r NoRefutation = IsRowOf s r × (r.evidence ≡ explained.refutation [])
IsVerdictFor s r (Refutation v) = IsRowOf s r × ((step : ExplainedStep)
    × (steps : List ExplainedStep) × (r.evidence ≡ explained.refutation (step ∷ steps))
    × IsRefutationVerdict s r.cycle (steps_in r.members (step ∷ steps)) v)

-- The verdict is `valid`.
abbrev pub is_valid : CycleVerdict → Bool
is_valid (Row fault) = false
is_valid (Witness Reaches) = true
is_valid (Witness (Fails fault place)) = false
is_valid NoRefutation = false
is_valid (Refutation Valid) = true
is_valid (Refutation (UnknownNumber m)) = false
is_valid (Refutation (WrongStep k fault)) = false
is_valid (Refutation (AfterEnd k)) = false
is_valid (Refutation PlaceLeft) = false

-- ---- the verdict on the first line of a report

-- The length is the number of events, and no cycle is longer than the bound.
abbrev pub HasLength : ℕ → ReportHead → Type 0
HasLength events h = h.length ≡ events

abbrev pub IsWithinBound : List StatedCycle → ReportHead → Type 0
IsWithinBound rows h = All (λ r. length r.cycle ≤ h.bound) rows

-- The counts are those of the cycles, and of the ones that are given as confirmed.
abbrev pub confirmed_count : List StatedCycle → ℕ
confirmed_count rows = count_by (λ r. is_witness r.evidence) rows

-- The verdict is right: the first test that does not hold, or `Valid`.
abbrev pub IsHeadVerdict : ℕ → List StatedCycle → ReportHead → HeadVerdict → Type 0
IsHeadVerdict events rows h (heads.OtherLength n) = (h.length ≢ events) × (n ≡ events)
IsHeadVerdict events rows h (heads.LongerCycle k) =
    HasLength events h × (IsWithinBound rows h → ⊥) × (k ≡ h.bound)
IsHeadVerdict events rows h (heads.OtherCycles n) =
    HasLength events h × IsWithinBound rows h × (h.cycles ≢ length rows) × (n ≡ length rows)
IsHeadVerdict events rows h (heads.OtherConfirmed n) =
    HasLength events h × IsWithinBound rows h × (h.cycles ≡ length rows)
    × (h.confirmed ≢ confirmed_count rows) × (n ≡ confirmed_count rows)
IsHeadVerdict events rows h heads.Valid =
    HasLength events h × IsWithinBound rows h × (h.cycles ≡ length rows)
    × (h.confirmed ≡ confirmed_count rows)

-- The verdict is `valid`.
abbrev pub is_valid_head : HeadVerdict → Bool
is_valid_head (heads.OtherLength n) = false
is_valid_head (heads.LongerCycle k) = false
is_valid_head (heads.OtherCycles n) = false
is_valid_head (heads.OtherConfirmed n) = false
is_valid_head heads.Valid = true

-- ---- the verdicts on a file

-- The verdicts on the first line of a report, if the file has it, are right.
abbrev pub AreHeadVerdicts : Trace → Contents → List HeadVerdict → Type 0
AreHeadVerdicts s f heads =
    AllZip (IsHeadVerdict (length s) f.cycles) (option_to_list f.head) heads

-- The verdicts on the cycles are right.
abbrev pub AreVerdicts : Trace → List StatedCycle → List CycleVerdict → Type 0
AreVerdicts s rows verdicts = AllZip (IsVerdictFor s) rows verdicts

-- The lines of cycles with their verdicts.
abbrev pub checked_lines : List StatedCycle → List CycleVerdict → List ℕ
checked_lines rows verdicts =
    flat_map (λ pair. checked_line pair.0.cycle pair.1) (zip rows verdicts)

-- The text is the line of a right verdict on the cycle, and `valid` says whether it is `valid`.
abbrev pub IsVerdictLine : Trace → StatedCycle → Bool → List ℕ → Type 0
IsVerdictLine s r valid text = (v : CycleVerdict) × IsVerdictFor s r v × (valid ≡ is_valid v)
    × (text ≡ checked_line r.cycle v)

-- The lines of right verdicts on cycles.
abbrev pub AreVerdictLines : Trace → List StatedCycle → List CheckedLine → Type 0
AreVerdictLines s rows lines =
    AllZip (λ r line. IsVerdictLine s r line.is_valid line.text.items) rows lines

-- The text has the lines of right verdicts on the contents of a file. The status is `Done` if all
-- are valid.
pub record IsCheckOf (s : Trace) (f : Contents) (status : Status) (text : List ℕ) : Type 0 where
  pub head : List HeadVerdict
  pub rows : List CycleVerdict
  pub head_is : AreHeadVerdicts s f head
  pub rows_are : AreVerdicts s f.cycles rows
  pub printed : text ≡ flat_map head_verdict_line head ++ checked_lines f.cycles rows
  pub ended : status ≡
      (if list_all is_valid_head head && list_all is_valid rows then Done else Refused)

-- The lines of right verdicts are appended, and `valid` says whether all are valid.
abbrev pub AddsHead : Trace → Contents → Bool → List ℕ → List ℕ → Type 0
AddsHead s f valid old new = (head : List HeadVerdict) × AreHeadVerdicts s f head
    × (valid ≡ list_all is_valid_head head) × (new ≡ old ++ flat_map head_verdict_line head)

abbrev pub AddsRows : Trace → List StatedCycle → Bool → List ℕ → List ℕ → Type 0
AddsRows s rows valid old new = (verdicts : List CycleVerdict) × AreVerdicts s rows verdicts
    × (valid ≡ list_all is_valid verdicts) × (new ≡ old ++ checked_lines rows verdicts)

-- ---- the command

-- The text is that of the check of the file against the events.
abbrev pub ChecksAs : Trace → List ℕ → Status → List ℕ → Type 0
ChecksAs s file status text =
    (f : ExplainedFile) × IsExplainedText f file × IsCheckOf s (contents_of f) status text

-- The text is right with this status: that of the check of the file against the trace's events,
-- which are lawful; or the line of the first event that is not lawful.
abbrev pub CheckPrints : List ℕ → List ℕ → Status → List ℕ → Type 0
CheckPrints trace file status text =
    ((events : Trace) × AreLawfulEventsOf events trace × ChecksAs events file status text)
    ⊎ UnlawfulPrints trace status text

-- The refusal names a line of the file, which is the first that is not understood, or says that an
-- agent merged cycles.
abbrev pub IsNotExplained : List ℕ → Type 0
IsNotExplained file = (refused : ExplainedRefused) × (refused ≢ files.NoMemory)
    × RefusesExplained file refused

-- A line is not understood: one of the trace; or, if its events are lawful, one of the file.
abbrev pub IsWrongLine : List ℕ → List ℕ → Type 0
IsWrongLine trace file = HasBadLine trace
    ⊎ ((events : Trace) × AreLawfulEventsOf events trace × IsNotExplained file)

-- What a status says of the output of `check` on these files.
abbrev pub CheckTells : List ℕ → List ℕ → Status → Option (List ℕ) → Option (List ℕ) → Type 0
CheckTells trace file status before after =
    EndsWithStatus (CheckPrints trace file) (IsWrongLine trace file) status before after

-- ---- what a valid file states

-- The cycle is what the file gives it as: confirmed, or not.
abbrev pub StatesTruth : Trace → List ℕ → StatedEvidence → Type 0
StatesTruth s numbers (explained.witness order) = IsConfirmed s numbers
StatesTruth s numbers (explained.refutation steps) = IsConfirmed s numbers → ⊥

-- The row is one of the trace, and its cycle is what the file gives it as.
abbrev pub IsTrueRow : Trace → StatedCycle → Type 0
IsTrueRow s r = IsRowOf s r × StatesTruth s r.cycle r.evidence

-- The counts of the first line of a report are those of the rows, and its length is that of the
-- trace.
abbrev pub IsTrueHead : Trace → List StatedCycle → ReportHead → Type 0
IsTrueHead s rows h = IsHeadVerdict (length s) rows h heads.Valid

-- A file of explained cycles whose lines are all valid states only true rows of the trace.
abbrev pub ValidFilesAreTrue : Type 0
ValidFilesAreTrue = (trace file text : List ℕ) → CheckPrints trace file Done text →
    (events : Trace) × (f : ExplainedFile) × AreLawfulEventsOf events trace
    × IsExplainedText f file × All (IsTrueRow events) (contents_of f).cycles
    × All (IsTrueHead events (contents_of f).cycles) (option_to_list f.head)
