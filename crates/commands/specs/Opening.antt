-- A snapshot of the events of a file (this project's profile).
use Rattle.std.specs.Prelude.{ℕ, List}
use Rattle.commands.specs.Admission.{AreLawfulEventsOf, IsUnlawfulIn}
use Rattle.commands.specs.declared.opening.Opening.{Opening}
use Rattle.commands.specs.declared.opening.Opening.TheVariants.{Opened, Refused}

-- either the file's events, which form a well-formed trace, or the first of them that is not lawful
abbrev pub IsOpeningOf : List ℕ → Opening → Type 0
IsOpeningOf file (Opened snapshot) = AreLawfulEventsOf snapshot file
IsOpeningOf file (Refused first) = IsUnlawfulIn file first
