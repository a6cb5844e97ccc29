-- An event file passed through the admission check (this project's profile).
use Rattle.std.specs.Prelude.{ℕ, List, ◌++◌, codes}
use Rattle.trace_model.specs.Theory.Trace.{Trace}
use Rattle.trace_model.specs.Theory.Lawful.{IsWellFormed}
use Rattle.wellformed.specs.declared.whole_lists.FirstUnlawful.{FirstUnlawful}
use Rattle.wellformed.specs.FirstUnlawful.{IsFirstUnlawful}
use Rattle.event_files.specs.EventFile.{AreWordsOfEvents, IsFirstBad, pieces_at}
use Rattle.commands.specs.Text.{labeled_line, refusal_words}
use Rattle.commands.specs.declared.admission.Admission.{Admission}
use Rattle.commands.specs.declared.admission.Admission.TheVariants.{Admitted, Refused}
use Rattle.commands.specs.declared.exit.CommandError.{CommandError}
use Rattle.commands.specs.declared.exit.CommandError.TheVariants.{Line, Merged, Memory, Output}

-- the events of the file, which form a well-formed trace
abbrev pub AreLawfulEventsOf : Trace → List ℕ → Type 0
AreLawfulEventsOf events file = AreWordsOfEvents events file × IsWellFormed events

-- the first of the file's events that is not lawful after those before it
abbrev pub IsUnlawfulIn : List ℕ → FirstUnlawful → Type 0
IsUnlawfulIn file first =
    (events : Trace) × AreWordsOfEvents events file × IsFirstUnlawful events first

-- either the file's events, which form a well-formed trace, or the first of them that is not lawful
abbrev pub IsAdmissionOf : List ℕ → Admission → Type 0
IsAdmissionOf file (Admitted events) = AreLawfulEventsOf events.items file
IsAdmissionOf file (Refused first) = IsUnlawfulIn file first

-- the line with this number, counted from 1, is the file's first that is not understood
abbrev pub IsFirstBadIn : List ℕ → ℕ → Type 0
IsFirstBadIn file number = IsFirstBad (pieces_at 10 file) number

-- a line of the file is the first that is not understood
abbrev pub HasBadLine : List ℕ → Type 0
HasBadLine file = (number : ℕ) × IsFirstBadIn file number

-- the error of parsing the file is right
abbrev pub RefusesFile : List ℕ → CommandError → Type 0
RefusesFile file (Line number) = IsFirstBadIn file number
RefusesFile file (Merged number) = ⊥
RefusesFile file Memory = Unit {0}
RefusesFile file (Output reason) = ⊥

-- the line that reports the first unlawful event
abbrev pub refused_at_line : FirstUnlawful → List ℕ
refused_at_line first = refusal_words first.refusal ++ labeled_line (codes " at ") first.index
