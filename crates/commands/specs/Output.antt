-- What a status says of the output of a command (this project's profile).
use Rattle.std.specs.Prelude.{◌≡◌, ℕ, ◌⊎◌, List, [], Option, Result, Ok, Err, take}
use Rattle.std.specs.Io.KnownBytes.{Appends}
use Rattle.commands.specs.Exit.{error_status}
use Rattle.commands.specs.declared.exit.CommandError.{CommandError}
use Rattle.commands.specs.declared.exit.Status.{Status}
use Rattle.commands.specs.declared.exit.Status.TheVariants.{Done, Refused, Error, NotUnderstood}

-- The output grew by a text with this property.
abbrev pub Writes : Option (List ℕ) → Option (List ℕ) → (List ℕ → Type 0) → Type 0
Writes before after Is = (text : List ℕ) × Is text × Appends before after text

-- The output grew by a beginning of the text.
abbrev pub AppendsPart : Option (List ℕ) → Option (List ℕ) → List ℕ → Type 0
AppendsPart before after text = (n : ℕ) × Appends before after (take n text)

-- The output did not grow, or it grew by a beginning of a text with this property.
abbrev pub IsCutShort : Option (List ℕ) → Option (List ℕ) → (List ℕ → Type 0) → Type 0
IsCutShort before after Is =
    Appends before after [] ⊎ ((text : List ℕ) × Is text × AppendsPart before after text)

-- A command ends with this status. `Prints` has the texts that are right with each status, and
-- `Wrong` says that a line of a file is not understood. The output grew by a right text; or it is
-- cut short, since the output or an allocation failed; or it did not grow, and a line is wrong.
abbrev pub EndsWithStatus : (Status → List ℕ → Type 0) → Type 0 → Status → Option (List ℕ) →
    Option (List ℕ) → Type 0
EndsWithStatus Prints Wrong Done before after = Writes before after (Prints Done)
EndsWithStatus Prints Wrong Refused before after = Writes before after (Prints Refused)
EndsWithStatus Prints Wrong Error before after =
    IsCutShort before after (λ text. (status : Status) × Prints status text)
EndsWithStatus Prints Wrong NotUnderstood before after = Wrong × (after ≡ before)

-- The same of a command that returns this result, whose error has a status.
abbrev pub EndsWithResult : (Status → List ℕ → Type 0) → Type 0 → Result Status CommandError →
    Option (List ℕ) → Option (List ℕ) → Type 0
EndsWithResult Prints Wrong (Ok status) before after =
    EndsWithStatus Prints Wrong status before after
EndsWithResult Prints Wrong (Err error) before after =
    EndsWithStatus Prints Wrong (error_status error) before after

-- Only this text is right, with this status.
abbrev pub IsJust : Status → List ℕ → Status → List ℕ → Type 0
IsJust status text outcome printed = (outcome ≡ status) × (printed ≡ text)
