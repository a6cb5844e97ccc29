-- Exit statuses (this project's profile).
use Rattle.std.specs.Prelude.{ℕ}
use Rattle.event_files.specs.declared.refused.FileRefused.{FileRefused}
use Rattle.event_files.specs.declared.refused.FileRefused.TheVariants as files
use Rattle.event_files.specs.declared.refused.ExplainedRefused.{ExplainedRefused}
use Rattle.event_files.specs.declared.refused.ExplainedRefused.TheVariants as explained
use Rattle.commands.specs.declared.exit.Status.{Status}
use Rattle.commands.specs.declared.exit.Status.TheVariants.{Done, Refused, Error, NotUnderstood}
use Rattle.commands.specs.declared.exit.CommandError.{CommandError}
use Rattle.commands.specs.declared.exit.CommandError.TheVariants.{Line, Merged, Memory, Output}

-- the number that the program exits with
abbrev pub exit_code : Status → ℕ
exit_code Done = 0
exit_code Refused = 1
exit_code Error = 1
exit_code NotUnderstood = 2

-- the error of a command whose file could not be parsed
abbrev pub file_error : FileRefused → CommandError
file_error (files.Line number) = Line number
file_error files.NoMemory = Memory

-- the error of `check` if the file of explained cycles could not be parsed
abbrev pub explained_error : ExplainedRefused → CommandError
explained_error (explained.Line number) = Line number
explained_error (explained.Merged number) = Merged number
explained_error explained.NoMemory = Memory

-- the status of a command that ended with this error
abbrev pub error_status : CommandError → Status
error_status (Line number) = NotUnderstood
error_status (Merged number) = NotUnderstood
error_status Memory = Error
error_status (Output reason) = Error
