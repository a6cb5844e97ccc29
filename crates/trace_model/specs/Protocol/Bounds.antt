-- Facts of every state that a run reaches, and bounds of its numbers.
use Rattle.std.specs.Prelude.{◌≡◌, ℕ, ◌*◌, ◌≤◌, List, length, take, slice_get, Some}
use Rattle.trace_model.specs.declared.limits.TheConstants.{MAX_EVENTS, MAX_QUESTIONS, MAX_CYCLES, MIN_BOUND, MAX_BOUND}
use Rattle.trace_model.specs.declared.messages.step.BoardStep.{BoardStep}
use Rattle.trace_model.specs.Theory.Trace.{Trace}
use Rattle.trace_model.specs.Theory.Lawful.{IsWellFormed}
use Rattle.trace_model.specs.Theory.Dependencies.{dependencies}
use Rattle.trace_model.specs.Theory.Rows.{Row}
use Rattle.trace_model.specs.Protocol.Machine.{Question, State, opening}
use Rattle.trace_model.specs.Protocol.Runs.{Good, IsRun, QuestionCounts, Summary, summary}

-- A question covers a prefix of the trace, has a valid bound and one task for each dependency, and
-- each delivered task has good rows.
pub record QuestionFits (good : Good) (s : Trace) (q : Question) : Type 0 where
  pub within : q.length ≤ length s
  pub at_least : MIN_BOUND ≤ q.bound
  pub at_most : q.bound ≤ MAX_BOUND
  pub total : length q.tasks ≡ length (dependencies (take q.length s))
  pub delivered_rows : (task : ℕ) (rows : List Row) → slice_get q.tasks task ≡ Some (Some rows) →
      good (take q.length s) q.bound task rows × (length rows ≤ MAX_CYCLES)

-- The state is within the limits, and its trace is well formed.
pub record StateFits (good : Good) (s : State) : Type 0 where
  pub limit : s.limit ≤ MAX_EVENTS
  pub well_formed : IsWellFormed s.accepted
  pub within : length s.accepted ≤ s.limit
  pub few : length s.questions ≤ MAX_QUESTIONS
  pub each : (k : ℕ) (q : Question) → slice_get s.questions k ≡ Some q →
      QuestionFits good s.accepted q

-- The counts of one question on the board are within the limits.
pub record ShownFits (b : Summary) (shown : QuestionCounts) : Type 0 where
  pub before : shown.before ≤ b.accepted
  pub at_least : MIN_BOUND ≤ shown.bound
  pub at_most : shown.bound ≤ MAX_BOUND
  pub total : shown.total ≤ shown.before
  pub delivered : shown.delivered ≤ shown.total
  pub cycles : shown.cycles ≤ MAX_CYCLES * shown.total
  pub confirmed : shown.confirmed ≤ shown.cycles

-- The counts of the board are within the limits.
pub record SummaryFits (b : Summary) : Type 0 where
  pub accepted : b.accepted ≤ MAX_EVENTS
  pub opened : length b.questions ≤ MAX_QUESTIONS
  pub each : (k : ℕ) (shown : QuestionCounts) → slice_get b.questions k ≡ Some shown →
      ShownFits b shown

-- The state after each run, and its summary, are within the limits.
abbrev pub RunFits : Good → Type 0
RunFits good =
    (limit : ℕ) (steps : List BoardStep) (last : State) → limit ≤ MAX_EVENTS →
    IsRun good (opening limit) steps last →
    StateFits good last × SummaryFits (summary steps)
