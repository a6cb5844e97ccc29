-- Look-ups in the machine's questions (this project's profile).
use Rattle.std.specs.Prelude.{◌≡◌, ℕ, take, slice_get, Option, Some, None, MatchOption}
use Rattle.trace_model.specs.Theory.Trace.{Trace}
use Rattle.trace_model.specs.Protocol.Machine.{Question, State}
use Rattle.sequencer.specs.Book.{IsLeastMissingTask}
use Rattle.findings.specs.Found.{AskedQuestion}

-- the question with this number is open and covers exactly these events
abbrev pub IsAboutEvents : State → ℕ → Trace → Type 0
IsAboutEvents s number events =
    (q : Question) × (slice_get s.questions number ≡ Some q) × (events ≡ take q.length s.accepted)

-- the least missing task of the question with this number, or `None` if all are delivered
abbrev pub IsFirstMissing : State → ℕ → Option ℕ → Type 0
IsFirstMissing s number found =
    (q : Question) × (slice_get s.questions number ≡ Some q)
    × MatchOption found ((task : ℕ) → slice_get q.tasks task ≡ Some None → ⊥) (IsLeastMissingTask q)

-- the job is one of the question with this number and bound
abbrev pub IsJobOf : ℕ → ℕ → AskedQuestion → Type 0
IsJobOf question bound job = (job.question ≡ question) × (job.bound ≡ bound)
