-- How `replay` ends (this project's profile).
use Rattle.std.specs.Prelude.{◌≡◌, ◌⊎◌, ℕ, List, ◌++◌, Option, codes}
use Rattle.trace_model.specs.Theory.Trace.{Trace}
use Rattle.wellformed.specs.declared.whole_lists.FirstUnlawful.{FirstUnlawful}
use Rattle.wellformed.specs.FirstUnlawful.{IsFirstUnlawful}
use Rattle.replay.specs.declared.verdict.Verdict.{Verdict}
use Rattle.replay.specs.declared.verdict.Verdict.TheVariants.{Reaches, Fails}
use Rattle.replay.specs.Tests.{test_name}
use Rattle.replay.specs.Verdict.{IsVerdict}
use Rattle.event_files.specs.EventFile.{AreWordsOfEvents, pieces_at}
use Rattle.event_files.specs.WitnessFile.{IsWitnessOf, RefusesWitness}
use Rattle.event_files.specs.declared.refused.FileRefused.TheVariants as files
use Rattle.commands.specs.Admission.{AreLawfulEventsOf, HasBadLine, refused_at_line}
use Rattle.commands.specs.Output.{EndsWithStatus}
use Rattle.commands.specs.Text.{labeled_line}
use Rattle.commands.specs.declared.exit.Status.{Status}
use Rattle.commands.specs.declared.exit.Status.TheVariants.{Done, Refused}

-- the line of a verdict
abbrev pub verdict_line : Verdict → List ℕ
verdict_line Reaches = codes "reaches\n"
verdict_line (Fails fault place) =
    codes "fault " ++ test_name fault ++ labeled_line (codes " ") place

-- the exit status of a verdict
abbrev pub verdict_status : Verdict → Status
verdict_status Reaches = Done
verdict_status (Fails fault place) = Refused

-- this is the verdict on the witness of the file, against the events
abbrev pub IsVerdictOn : Trace → List ℕ → Verdict → Type 0
IsVerdictOn events witness v = (instance order : List ℕ) × IsWitnessOf instance order witness
    × IsVerdict events order instance v

-- the line with this number, counted from 1, is the witness file's first that is not understood
abbrev pub IsFirstWrongIn : List ℕ → ℕ → Type 0
IsFirstWrongIn witness number = RefusesWitness (pieces_at 10 witness) (files.Line number)

-- The text is the line of the verdict on the witness, and the status is that of the verdict.
abbrev pub VerdictPrints : Trace → List ℕ → Status → List ℕ → Type 0
VerdictPrints events witness status text = (v : Verdict) × IsVerdictOn events witness v
    × (status ≡ verdict_status v) × (text ≡ verdict_line v)

-- An event of the file is not lawful. The text is the line of the first such event.
abbrev pub UnlawfulPrints : List ℕ → Status → List ℕ → Type 0
UnlawfulPrints file status text = (events : Trace) × (first : FirstUnlawful)
    × AreWordsOfEvents events file × IsFirstUnlawful events first
    × (status ≡ Refused) × (text ≡ refused_at_line first)

-- The text is right with this status: the line of the verdict on the witness, against the trace's
-- events, which are lawful; or the line of the first event that is not lawful.
abbrev pub ReplayPrints : List ℕ → List ℕ → Status → List ℕ → Type 0
ReplayPrints trace witness status text =
    ((events : Trace) × AreLawfulEventsOf events trace × VerdictPrints events witness status text)
    ⊎ UnlawfulPrints trace status text

-- A line of the witness file is the first that is not understood.
abbrev pub HasWrongWitness : List ℕ → Type 0
HasWrongWitness witness = (number : ℕ) × IsFirstWrongIn witness number

-- A line is the first that is not understood, of the trace or, if its events are lawful, of the
-- witness.
abbrev pub HasWrongLine : List ℕ → List ℕ → Type 0
HasWrongLine trace witness = HasBadLine trace
    ⊎ ((events : Trace) × AreLawfulEventsOf events trace × HasWrongWitness witness)

-- What a status says of the output of `replay` on these files.
abbrev pub ReplayTells : List ℕ → List ℕ → Status → Option (List ℕ) → Option (List ℕ) → Type 0
ReplayTells trace witness status before after =
    EndsWithStatus (ReplayPrints trace witness) (HasWrongLine trace witness) status before after
