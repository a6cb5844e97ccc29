-- How a command ends that admits a trace before it reads the rest.
use Rattle.std.proofs.Common.{◌≡◌, ◌⊎◌, List, ℕ, Option, inl, inr, subst}
use Rattle.std.specs.Prelude.{Result, MatchResult}
use Rattle.trace_model.specs.Theory.Trace.{Trace}
use Rattle.wellformed.specs.declared.whole_lists.FirstUnlawful.{FirstUnlawful}
use Rattle.commands.specs.Admission.{AreLawfulEventsOf, IsUnlawfulIn, HasBadLine, refused_at_line}
use Rattle.commands.specs.Exit.{error_status}
use Rattle.commands.specs.Output.{EndsWithStatus, EndsWithResult, IsJust}
use Rattle.commands.specs.Replay.{UnlawfulPrints}
use Rattle.commands.specs.declared.exit.CommandError.{CommandError}
use Rattle.commands.specs.declared.exit.Status.{Status}
use Rattle.commands.specs.declared.exit.Status.TheVariants.{Refused}
use Rattle.commands.proofs.Outputs.{ends_as_weaker, ends_weaker, reported_ends}

-- The line of the first event that is not lawful.
pub unlawful_prints : (file : List ℕ) (first : FirstUnlawful) → IsUnlawfulIn file first → (s : Status) (x : List ℕ) → IsJust Refused (refused_at_line first) s x → UnlawfulPrints file s x
unlawful_prints file first (events, are, unlawful) s x just = (events, first, are, unlawful, just.0, just.1)

-- The text is right for the events of the trace, or it is the line of the first unlawful one.
abbrev pub PrintsAdmitted : (Trace → Status → List ℕ → Type 0) → List ℕ → Status → List ℕ → Type 0
PrintsAdmitted Prints trace status text = ((events : Trace) × AreLawfulEventsOf events trace × Prints events status text) ⊎ UnlawfulPrints trace status text

-- The trace is not admitted.
pub refused_ends : (Prints : Trace → Status → List ℕ → Type 0) (Wrong : Type 0) (trace : List ℕ) (status : Status) (a b : Option (List ℕ)) → (HasBadLine trace → Wrong) →
    EndsWithStatus (UnlawfulPrints trace) (HasBadLine trace) status a b → EndsWithStatus (PrintsAdmitted Prints trace) Wrong status a b
refused_ends Prints Wrong trace status a b wrong ends = ends_weaker (UnlawfulPrints trace) (PrintsAdmitted Prints trace) (HasBadLine trace) Wrong status a b (λ s x is. inr is) wrong ends

-- The trace is admitted, and the command ends as it does on its events.
pub admitted_ends : (Prints : Trace → Status → List ℕ → Type 0) (Own Wrong : Type 0) (trace : List ℕ) (events : Trace) (r : Result Status CommandError) (status : Status) (a b c : Option (List ℕ)) →
    AreLawfulEventsOf events trace → (Own → Wrong) → b ≡ a → EndsWithResult (Prints events) Own r b c →
    MatchResult r (λ outcome. status ≡ outcome) (λ error. status ≡ error_status error) → EndsWithStatus (PrintsAdmitted Prints trace) Wrong status a c
admitted_ends Prints Own Wrong trace events r status a b c are wrong kept ends same =
    subst (λ x. EndsWithStatus (PrintsAdmitted Prints trace) Wrong status x c) kept
    (reported_ends (PrintsAdmitted Prints trace) Wrong r status b c (ends_as_weaker (Prints events) (PrintsAdmitted Prints trace) Own Wrong r b c (λ s x is. inl (events, are, is)) wrong ends) same)
