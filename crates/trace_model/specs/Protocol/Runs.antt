-- Runs: lists of steps that the machine can take, and what a board shows of them.
use Rattle.std.specs.Prelude.{◌≡◌, ℕ, ◌+◌, ◌≤◌, List, [], ◌∷◌, ◌++◌, length, take, slice_get, slice_set, Option, Some, None}
use Rattle.std.specs.List.{count_by}
use Rattle.trace_model.specs.declared.limits.TheConstants.{MAX_EVENTS, MAX_CYCLES}
use Rattle.trace_model.specs.declared.messages.step.BoardStep.{BoardStep}
use Rattle.trace_model.specs.declared.messages.step.BoardStep.TheVariants.{Accept, Open, Deliver}
use Rattle.trace_model.specs.Theory.Trace.{Trace}
use Rattle.trace_model.specs.Protocol.Batches.{AreLawful, IsBatch}
use Rattle.trace_model.specs.Theory.Dependencies.{dependencies}
use Rattle.trace_model.specs.Theory.Rows.{Row, AreRows}
use Rattle.trace_model.specs.Protocol.Machine.{Question, State, opening, ask_refused, is_confirmed, delivered_count, cycles_of, confirmed_of, with_events, with_question, with_task}
use Rattle.trace_model.specs.declared.messages.session.Reply.{Reply}
use Rattle.trace_model.specs.declared.messages.session.Reply.TheVariants.{Refused, Status}
use Rattle.trace_model.specs.declared.refusal.Refusal.TheVariants.{NoSuchQuestion}

-- Which rows of a task may be delivered, such as `AreRows` or `AreSound`.
abbrev pub Good : Type 1
Good = Trace → ℕ → ℕ → List Row → Type 0

-- The machine accepts the step in state s and is then in state `next`.
abbrev pub TakesStep : Good → State → BoardStep → State → Type 0
TakesStep good s (Accept events) next =
    IsBatch events × AreLawful s.limit s.accepted events × (next ≡ with_events s events)
TakesStep good s (Open bound total) next =
    (ask_refused s bound ≡ None) × (total ≡ length (dependencies s.accepted))
    × (next ≡ with_question s bound)
TakesStep good s (Deliver number task cycles confirmed) next =
    (q : Question) × (rows : List Row)
    × (slice_get s.questions number ≡ Some q) × (slice_get q.tasks task ≡ Some None)
    × good (take q.length s.accepted) q.bound task rows
    × (length rows ≤ MAX_CYCLES) × (cycles ≡ length rows) × (confirmed ≡ count_by is_confirmed rows)
    × (next ≡ with_task s number q task rows)

-- The machine takes the steps, from state s to state `last`.
abbrev pub IsRun : Good → State → List BoardStep → State → Type 0
IsRun good s [] last = last ≡ s
IsRun good s (step ∷ steps) last = (mid : State) × TakesStep good s step mid
    × IsRun good mid steps last

-- The machine takes the steps from the empty state with limit MAX_EVENTS.
abbrev pub IsLegalRun : Good → List BoardStep → Type 0
IsLegalRun good steps = (last : State) × IsRun good (opening MAX_EVENTS) steps last

-- The steps are a legal run that delivers exact rows.
abbrev pub IsLegal : List BoardStep → Type 0
IsLegal steps = IsLegalRun AreRows steps

-- The counts of one question.
pub record QuestionCounts : Type 0 where
  pub before : ℕ
  pub bound : ℕ
  pub total : ℕ
  pub delivered : ℕ
  pub cycles : ℕ
  pub confirmed : ℕ

-- The number of accepted events, and the counts of each question.
pub record Summary : Type 0 where
  pub accepted : ℕ
  pub questions : List QuestionCounts

-- The counts of all questions after a delivery to the question with this number.
abbrev pub add_delivery : List QuestionCounts → Option QuestionCounts → ℕ → ℕ → ℕ →
    List QuestionCounts
add_delivery shown None number cycles confirmed = shown
add_delivery shown (Some q) number cycles confirmed =
    let more : QuestionCounts = record q {
      delivered = q.delivered + 1;
      cycles = q.cycles + cycles;
      confirmed = q.confirmed + confirmed;
    } in
    slice_set shown number more

-- The summary after one more step.
abbrev pub count_step : Summary → BoardStep → Summary
count_step b (Accept events) = record b { accepted = b.accepted + length events }
count_step b (Open bound total) =
    let fresh : QuestionCounts = record {
      before = b.accepted;
      bound = bound;
      total = total;
      delivered = 0;
      cycles = 0;
      confirmed = 0;
    } in
    record b { questions = b.questions ++ fresh ∷ [] }
count_step b (Deliver number task cycles confirmed) =
    record b {
      questions = add_delivery b.questions
          (slice_get b.questions number) number cycles confirmed;
    }

-- The summary after more steps.
abbrev pub count_steps : Summary → List BoardStep → Summary
count_steps b [] = b
count_steps b (step ∷ steps) = count_steps (count_step b step) steps

-- The summary of a run: what a board shows of it.
abbrev pub summary : List BoardStep → Summary
summary steps = count_steps (record { accepted = 0; questions = [] }) steps

-- The counts are those of the question.
abbrev pub ShowsQuestion : QuestionCounts → Question → Type 0
ShowsQuestion shown q =
    (shown.before ≡ q.length) × (shown.bound ≡ q.bound) × (shown.total ≡ length q.tasks)
    × (shown.delivered ≡ delivered_count q) × (shown.cycles ≡ cycles_of q)
    × (shown.confirmed ≡ confirmed_of q)

-- The summary is that of the state.
abbrev pub ShowsState : Summary → State → Type 0
ShowsState b s =
    (b.accepted ≡ length s.accepted) × (length b.questions ≡ length s.questions)
    × ((k : ℕ) (shown : QuestionCounts) (q : Question) → slice_get b.questions k ≡ Some shown →
    slice_get s.questions k ≡ Some q →
    ShowsQuestion shown q)

-- The status computed from the counts of this question, if there is one.
abbrev pub shown_status_of : Summary → ℕ → Option QuestionCounts → Reply
shown_status_of b number None = Refused NoSuchQuestion
shown_status_of b number (Some q) =
    Status (record {
      question = number;
      accepted = b.accepted;
      opened = length b.questions;
      length = q.before;
      bound = q.bound;
      total = q.total;
      delivered = q.delivered;
      cycles = q.cycles;
      confirmed = q.confirmed;
    })

-- The status of the question with this number, computed from the summary.
abbrev pub shown_status : Summary → ℕ → Reply
shown_status b number = shown_status_of b number (slice_get b.questions number)

-- The summary of a run is that of the state after it.
abbrev pub SummaryIsState : Good → Type 0
SummaryIsState good = (limit : ℕ) (steps : List BoardStep) (last : State) →
    IsRun good (opening limit) steps last → ShowsState (summary steps) last
