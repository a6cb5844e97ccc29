-- How `offline` ends (this project's profile).
use Rattle.std.specs.Prelude.{◌≡◌, ◌≢◌, ℕ, List, [], Option}
use Rattle.trace_model.specs.Theory.Trace.{Trace}
use Rattle.trace_model.specs.declared.refusal.Refusal.TheVariants as refusals
use Rattle.offline_report.specs.declared.refused.OfflineRefused.{OfflineRefused}
use Rattle.offline_report.specs.declared.refused.OfflineRefused.TheVariants.{Unlawful, TooLong, TooManyCycles, NoMemory}
use Rattle.offline_report.specs.Offline.{IsReport, IsOfflineRefusal}
use Rattle.commands.specs.Admission.{HasBadLine, refused_at_line}
use Rattle.commands.specs.Output.{EndsWithStatus}
use Rattle.commands.specs.Text.{refusal_line}
use Rattle.event_files.specs.EventFile.{AreWordsOfEvents}
use Rattle.commands.specs.declared.exit.Status.{Status}
use Rattle.commands.specs.declared.exit.Status.TheVariants.{Done, Refused, Error, NotUnderstood}

-- the line that says why there is no report; lack of memory is reported on standard error
abbrev pub refused_line : OfflineRefused → List ℕ
refused_line (Unlawful first) = refused_at_line first
refused_line TooLong = refusal_line refusals.ReportTooLong
refused_line TooManyCycles = refusal_line refusals.TooManyCycles
refused_line NoMemory = []

-- The text is right with this status: the report on the events, or the line of a refusal that is
-- right for them.
abbrev pub ReportPrints : Trace → ℕ → Status → List ℕ → Type 0
ReportPrints s bound Done text = IsReport s bound text
ReportPrints s bound Refused text = (refused : OfflineRefused) × (refused ≢ NoMemory)
    × IsOfflineRefusal s bound refused × (text ≡ refused_line refused)
ReportPrints s bound Error text = ⊥
ReportPrints s bound NotUnderstood text = ⊥

-- The text is right with this status for the file's events.
abbrev pub OfflinePrints : List ℕ → ℕ → Status → List ℕ → Type 0
OfflinePrints file bound status text =
    (events : Trace) × AreWordsOfEvents events file × ReportPrints events bound status text

-- What a status says of the output of `offline` on this file.
abbrev pub OfflineTells : List ℕ → ℕ → Status → Option (List ℕ) → Option (List ℕ) → Type 0
OfflineTells file bound status before after =
    EndsWithStatus (OfflinePrints file bound) (HasBadLine file) status before after
