-- The ranges of the numbers of a command (this project's profile).
use Rattle.std.specs.Prelude.{ℕ, ◌≤◌}
use Rattle.command_line.specs.declared.Invocation.{Invocation}
use Rattle.command_line.specs.declared.Invocation.TheVariants.{Serve, Script, Offline, Replay, Explain, Check}

-- the number is in the closed range
abbrev pub IsInClosedRange : ℕ → ℕ → ℕ → Type 0
IsInClosedRange least most number = (least ≤ number) × (number ≤ most)

-- the limit of a book
abbrev pub IsLimitNumber : ℕ → Type 0
IsLimitNumber limit = IsInClosedRange 1 1_048_576 limit

-- each number of the command is in its range
abbrev pub HasNumbersInRange : Invocation → Type 0
HasNumbersInRange (Serve address workers sessions limit idle stop log) =
    IsInClosedRange 1 16 workers × IsInClosedRange 0 1_000_000 sessions × IsLimitNumber limit
    × IsInClosedRange 0 86_400 idle
HasNumbersInRange (Script file limit) = IsLimitNumber limit
HasNumbersInRange (Offline file bound) = IsInClosedRange 2 8 bound
HasNumbersInRange (Replay trace witness) = Unit {0}
HasNumbersInRange (Explain file bound cycle) = IsInClosedRange 2 8 bound
HasNumbersInRange (Check trace file) = Unit {0}
