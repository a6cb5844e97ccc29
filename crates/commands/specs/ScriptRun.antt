-- What commands of a script do (this project's profile).
use Rattle.std.specs.Prelude.{◌≡◌, ◌⊎◌, ℕ, zero, suc, List, Some, None, Result, Ok, Err, take, slice_get}
use Rattle.trace_model.specs.declared.limits.TheConstants.{MAX_CYCLES}
use Rattle.trace_model.specs.declared.refusal.Refusal.{Refusal}
use Rattle.trace_model.specs.declared.refusal.Refusal.TheVariants.{NoMemory, TooManyCycles}
use Rattle.trace_model.specs.declared.messages.step.BoardStep.TheVariants as steps
use Rattle.trace_model.specs.Theory.Dependencies.{dependencies}
use Rattle.trace_model.specs.Theory.Rows.{AreRows}
use Rattle.trace_model.specs.Protocol.Machine.{Question, State, task_refused}
use Rattle.trace_model.specs.Protocol.Runs.{TakesStep}
use Rattle.cycle_search.specs.CycleSearch.{CycleFrom, MoreThan}
use Rattle.findings.specs.Found.{AskedQuestion}
use Rattle.sequencer.specs.Book.{IsLeastMissingTask, RefusesSnapshot}
use Rattle.commands.specs.Text.{labeled_line, refusal_line}

-- the rows of the task, which was missing, are delivered
abbrev pub DeliversTask : State → ℕ → ℕ → State → Type 0
DeliversTask s number task next = (cycles confirmed : ℕ)
    × TakesStep AreRows s (steps.Deliver number task cycles confirmed) next

-- the least missing task of the question
abbrev pub IsNextTask : State → ℕ → ℕ → Type 0
IsNextTask s number task =
    (q : Question) × (slice_get s.questions number ≡ Some q) × IsLeastMissingTask q task

-- the question is open, and none of its tasks is missing
abbrev pub HasNoMissingTask : State → ℕ → Type 0
HasNoMissingTask s number = (q : Question) × (slice_get s.questions number ≡ Some q)
    × ((task : ℕ) → slice_get q.tasks task ≡ Some None → ⊥)

-- this many tasks are delivered one after the other, each the least missing one
abbrev pub DeliversNext : ℕ → State → ℕ → State → Type 0
DeliversNext zero s number next = next ≡ s
DeliversNext (suc n) s number next = (mid : State) × (task : ℕ) × DeliversNext n s number mid
    × IsNextTask mid number task × DeliversTask mid number task next

-- why a task of an open question is refused: the machine refuses it, an allocation failed, or it
-- has more cycles than a finding can have
abbrev pub RefusesTask : State → ℕ → ℕ → Refusal → Type 0
RefusesTask s number task r = (q : Question) × (slice_get s.questions number ≡ Some q)
    × ((task_refused (slice_get q.tasks task) ≡ Some r) ⊎ ((r ≡ NoMemory) ⊎ ((r ≡ TooManyCycles)
    × MoreThan (CycleFrom (dependencies (take q.length s.accepted)) q.bound task) MAX_CYCLES)))

-- the result of `deliver`, and the state after it
abbrev pub DeliversOne : State → ℕ → ℕ → Result ℕ Refusal → State → Type 0
DeliversOne s number task (Ok outcome) next = (outcome ≡ task) × DeliversTask s number task next
DeliversOne s number task (Err r) next =
    (next ≡ s) × (RefusesSnapshot s number r ⊎ RefusesTask s number task r)

-- the result of `work`, and the state after it: the number of delivered tasks, and none is missing;
-- or the refusal that ended the command after some tasks
abbrev pub Works : State → ℕ → Result ℕ Refusal → State → Type 0
Works s number (Ok n) next = DeliversNext n s number next × HasNoMissingTask next number
Works s number (Err r) next = (n : ℕ) × DeliversNext n s number next
    × (RefusesSnapshot next number r
    ⊎ ((task : ℕ) × IsNextTask next number task × RefusesTask next number task r))

-- the job is about an open question: its number, bound and events
abbrev pub IsJobIn : State → AskedQuestion → Type 0
IsJobIn s job = (q : Question) × (slice_get s.questions job.question ≡ Some q)
    × (job.bound ≡ q.bound) × (job.events ≡ take q.length s.accepted)

-- the line of a number or a refusal
abbrev pub outcome_line : List ℕ → Result ℕ Refusal → List ℕ
outcome_line label (Ok n) = labeled_line label n
outcome_line label (Err r) = refusal_line r
