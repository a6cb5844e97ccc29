-- What a worker's turn returns (this project's profile).
use Rattle.std.specs.Prelude.{◌≡◌, ◌≢◌, ℕ, ◌<◌, ◌⊎◌, Bool, true, List, [], ◌∷◌, ◌++◌, slice_get, slice_set, Option, Some, None, IfSome, IsSome}
use Rattle.std.specs.Option.{option_flatten}
use Rattle.trace_model.specs.declared.limits.TheConstants.{MAX_CYCLES}
use Rattle.trace_model.specs.declared.messages.step.BoardStep.{BoardStep}
use Rattle.trace_model.specs.Theory.Dependencies.{dependencies}
use Rattle.trace_model.specs.Theory.Trace.{Trace}
use Rattle.trace_model.specs.Protocol.Machine.{State}
use Rattle.trace_model.specs.declared.refusal.Refusal.{Refusal}
use Rattle.trace_model.specs.declared.refusal.Refusal.TheVariants.{NoMemory, NoSuchQuestion}
use Rattle.sequencer.specs.Book.{RefusesSnapshot}
use Rattle.snapshots.specs.Found.{RowsOfTask}
use Rattle.cycle_search.specs.CycleSearch.{CycleFrom, MoreThan}
use Rattle.findings.specs.Found.{AskedQuestion}
use Rattle.findings.specs.TaskSearches.{ContinuesSearch}
use Rattle.findings.specs.declared.task_search.TaskSearch.{TaskSearch}
use Rattle.claims.specs.declared.Draw.{Draw}
use Rattle.claims.specs.Draws.{draw}
use Rattle.board.specs.declared.summary.Unsettled.{Unsettled}
use Rattle.board.specs.Unsettled.{IsLeastUnsettled, open_questions}
use Rattle.desk.specs.Published.{Afterwards, WasTaken}
use Rattle.desk.specs.Questions.{IsAboutEvents, IsFirstMissing, IsJobOf}
use Rattle.desk.specs.Refused.{RefusesFinding}
use mathlib.Core.List.{IsPrefix}

-- a job with a task: the question of the job, and the search of the task
pub record TaskJobView : Type 0 where
  pub asked : AskedQuestion
  pub search : TaskSearch

-- the job that is kept for the question with this number, if there is one
abbrev pub paused_at : List (Option TaskJobView) → ℕ → Option TaskJobView
paused_at jobs question = option_flatten (slice_get jobs question)

-- no job is kept
abbrev pub KeepsNone : List (Option TaskJobView) → Type 0
KeepsNone jobs = (question : ℕ) → paused_at jobs question ≡ None

-- the same jobs are kept for all other questions
abbrev pub SameExcept : ℕ → List (Option TaskJobView) → List (Option TaskJobView) → Type 0
SameExcept question old new =
    (other : ℕ) → other ≢ question → paused_at new other ≡ paused_at old other

-- what contracts see of a worker: the steps that its reader has seen or learned, for each question
-- whether the worker gave it up and whether it passes it over in this round, and the jobs whose
-- search it keeps, by question
pub record WorkerView : Type 0 where
  pub known : List BoardStep
  pub given_up : List Bool
  pub passed_over : List Bool
  pub paused : List (Option TaskJobView)

-- each question that was given up is passed over
abbrev pub PassesOver : List Bool → List Bool → Type 0
PassesOver given_up passed_over = (question : ℕ) → slice_get given_up question ≡ Some true →
    slice_get passed_over question ≡ Some true

-- the task is below the total and was drawn for the question
pub record IsDrawn (question total : ℕ) (before after : List Draw) (task : ℕ) : Type 0 where
  pub below : task < total
  pub drawn : after ≡ before ++ draw question task ∷ []

-- A new round begins: no question was unsettled, except of those that were passed over. From now
-- on only those that were given up are passed over.
pub record BeginsRound (given_up passed_over : List Bool) (old shown : List BoardStep)
    (passed : List Bool) : Type 0 where
  pub first : List BoardStep
  pub later : IsPrefix old first
  pub seen : IsPrefix first shown
  pub none : IsLeastUnsettled passed_over (open_questions first) None
  pub anew : passed ≡ given_up

-- The worker knew the `old` steps. In this turn it saw steps that extend these, and this was then
-- the least unsettled question, except of those that it passed over. These are the ones that it
-- gave up or paused in this round; or a new round begins. It knows the `known` steps now.
pub record Chooses (given_up passed_over : List Bool) (old known : List BoardStep)
    (passed : List Bool) (found : Option Unsettled) : Type 0 where
  pub shown : List BoardStep
  pub later : IsPrefix old shown
  pub seen : IsPrefix shown known
  pub least : IsLeastUnsettled passed (open_questions shown) found
  pub wanted : IfSome found (λ one. slice_get given_up one.number ≢ Some true)
  pub round : ((passed ≡ passed_over) × IsSome found)
      ⊎ BeginsRound given_up passed_over old shown passed

-- the worker passed over these questions and chose this one, and the property holds of both
abbrev pub ChoseInRound : WorkerView → WorkerView → (List Bool → Unsettled → Type 0) → Type 0
ChoseInRound old new so = (one : Unsettled) × (passed : List Bool)
    × Chooses old.given_up old.passed_over old.known new.known passed (Some one) × so passed one

-- the worker chose this question, and the property holds of it
abbrev pub Chose : WorkerView → WorkerView → (Unsettled → Type 0) → Type 0
Chose old new so = ChoseInRound old new (λ _. so)

-- the property holds of the job that was kept for this question, if there was one
abbrev pub IfKept : List (Option TaskJobView) → Unsettled → (TaskJobView → Type 0) → Type 0
IfKept jobs one so = (job : TaskJobView) → paused_at jobs one.number ≡ Some job →
    IsJobOf one.number one.shown.bound job.asked → so job

-- the last known step delivers the rows of a task of this question: of the one whose search was
-- kept, if there was one
abbrev pub LastStepDelivers : ℕ → List (Option TaskJobView) → List BoardStep → Unsettled → Type 0
LastStepDelivers limit jobs known one = (finding : RowsOfTask) × (finding.question ≡ one.number)
    × (finding.bound ≡ one.shown.bound) × WasTaken limit finding known
    × IfKept jobs one (λ job. finding.task ≡ job.search.task)

-- the same task of the same question, searched further
pub record ContinuesJob (visits : ℕ) (job later : TaskJobView) : Type 0 where
  pub same_question : later.asked ≡ job.asked
  pub continues : ContinuesSearch job.asked.events job.asked.bound visits job.search later.search

-- the worker keeps the search of a task of this question: later than the one that it kept before,
-- if there was one
abbrev pub KeepsSearch : ℕ → List (Option TaskJobView) → List (Option TaskJobView) → Unsettled →
    Type 0
KeepsSearch visits old new one = (later : TaskJobView) × (paused_at new one.number ≡ Some later)
    × IsJobOf one.number one.shown.bound later.asked
    × IfKept old one (λ job. ContinuesJob visits job later)

-- the worker keeps a search of this question, and passes the question over until a new round begins
abbrev pub PausesOn : ℕ → WorkerView → WorkerView → List Bool → Unsettled → Type 0
PausesOn visits old new passed one = KeepsSearch visits old.paused new.paused one
    × (new.passed_over ≡ slice_set passed one.number true)

-- no question was unsettled, except of those that the worker gave up; or no task of the least such
-- question is missing after the known steps. The worker keeps no search.
abbrev pub IsIdle : ℕ → WorkerView → WorkerView → Type 0
IsIdle limit old new = (found : Option Unsettled) × (passed : List Bool)
    × Chooses old.given_up old.passed_over old.known new.known passed found
    × IfSome found (λ one. Afterwards limit new.known
    (λ state. IsFirstMissing state one.number None))
    × KeepsNone new.paused

-- the machine has no such question, no snapshot of it, or does not take a finding of it
abbrev pub RefusesQuestion : ℕ → Refusal → State → Type 0
RefusesQuestion question refusal state =
    ((refusal ≡ NoSuchQuestion) × (slice_get state.questions question ≡ None))
    ⊎ (RefusesSnapshot state question refusal
    ⊎ ((finding : RowsOfTask) × (finding.question ≡ question)
    × RefusesFinding state finding refusal))

-- the task of this question has more cycles up to the bound than a search may find
abbrev pub QuestionHasTooMany : ℕ → List BoardStep → ℕ → ℕ → ℕ → Type 0
QuestionHasTooMany limit known question bound task =
    (run : List BoardStep) × (events : Trace) × IsPrefix run known
    × Afterwards limit run (λ state. IsAboutEvents state question events)
    × MoreThan (CycleFrom (dependencies events) bound task) MAX_CYCLES

-- The machine refuses the worker's question after some steps: it is not open, or it has no
-- snapshot, or a finding of it is not taken.
abbrev pub IsRefusedTurn : ℕ → ℕ → Refusal → Type 0
IsRefusedTurn limit question refusal = (refusal ≢ NoMemory)
    × ((run : List BoardStep) × Afterwards limit run (RefusesQuestion question refusal))

-- a task of this question has too many cycles
abbrev pub IsTooMuch : ℕ → List BoardStep → Unsettled → Type 0
IsTooMuch limit known one =
    (task : ℕ) × QuestionHasTooMany limit known one.number one.shown.bound task

-- the property holds of the machine after steps between these
abbrev pub HeldBetween : ℕ → List BoardStep → List BoardStep → (State → Type 0) → Type 0
HeldBetween limit old known so = (run : List BoardStep) × IsPrefix old run × IsPrefix run known
    × Afterwards limit run so

-- the worker gives up this question, whose least missing task has too many cycles
abbrev pub GivesUpOn : ℕ → WorkerView → WorkerView → Unsettled → Type 0
GivesUpOn limit old new one = (task : ℕ)
    × QuestionHasTooMany limit new.known one.number one.shown.bound task
    × HeldBetween limit old.known new.known
    (λ state. IsFirstMissing state one.number (Some task))
    × (new.given_up ≡ slice_set old.given_up one.number true)
