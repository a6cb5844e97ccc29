-- Laws of runs.
use Rattle.std.specs.Prelude.{◌≡◌, ℕ, ◌≤◌, ◌↔◌, List, [], ◌∷◌, ◌++◌, length, take, None}
use Rattle.std.specs.List.{count_by}
use Rattle.trace_model.specs.declared.traces.event.Event.{Event}
use Rattle.trace_model.specs.declared.limits.TheConstants.{MAX_CYCLES, MAX_EVENTS}
use Rattle.trace_model.specs.declared.messages.step.BoardStep.{BoardStep}
use Rattle.trace_model.specs.declared.messages.step.BoardStep.TheVariants.{Accept, Open, Deliver}
use Rattle.trace_model.specs.Theory.Trace.{Trace}
use Rattle.trace_model.specs.Theory.Lawful.{refusal_of}
use Rattle.trace_model.specs.Protocol.Batches.{IsBatch, taken_of}
use Rattle.trace_model.specs.Theory.Dependencies.{dependencies}
use Rattle.trace_model.specs.Theory.Rows.{Row, AreRows, AreSound}
use Rattle.trace_model.specs.Protocol.Machine.{State, opening, is_confirmed, offer, offer_batch, ask, ask_refused, deliver, deliver_refused, status}
use Rattle.trace_model.specs.Protocol.Runs.{Good, TakesStep, IsRun, IsLegal, SummaryIsState, Summary, ShowsState, shown_status}
use Rattle.trace_model.specs.Protocol.Bounds.{RunFits}

-- The summary of a run is the summary of the state after it, for exact and for sound rows.
abbrev pub SummariesAreStates : Type 0
SummariesAreStates = SummaryIsState AreRows × SummaryIsState AreSound

-- The state after a run and its summary are within the limits, for exact and for sound rows.
abbrev pub RunsFit : Type 0
RunsFit = RunFits AreRows × RunFits AreSound

-- A run of two lists of steps is a run of the first list, followed by a run of the second.
abbrev pub RunSplits : Good → Type 0
RunSplits good = (s last : State) (steps more : List BoardStep) →
    IsRun good s (steps ++ more) last ↔
    ((mid : State) × IsRun good s steps mid × IsRun good mid more last)

-- `RunSplits`, for exact and for sound rows.
abbrev pub RunsSplit : Type 0
RunsSplit = RunSplits AreRows × RunSplits AreSound

-- If the machine refuses nothing, then it takes a step.
pub record MachineSteps (good : Good) : Type 0 where
  pub offers : (s : State) (e : Event) → refusal_of s.limit s.accepted e ≡ None →
      TakesStep good s (Accept (e ∷ [])) (offer s e).1
  pub batches : (s : State) (events : List Event) → IsBatch events →
      1 ≤ (taken_of s.limit s.accepted events).0 →
      TakesStep good s (Accept (take (taken_of s.limit s.accepted events).0 events))
      (offer_batch s events).1
  pub asks : (s : State) (bound : ℕ) → ask_refused s bound ≡ None →
      TakesStep good s (Open bound (length (dependencies s.accepted))) (ask s bound).1
  pub delivers : (s : State) (number bound : ℕ) (events : Trace) (task : ℕ) (rows : List Row) →
      deliver_refused s number bound events task ≡ None → good events bound task rows →
      length rows ≤ MAX_CYCLES →
      TakesStep good s (Deliver number task (length rows) (count_by is_confirmed rows))
      (deliver s number bound events task rows).1

-- `MachineSteps`, for exact and for sound rows.
abbrev pub MachineTakesSteps : Type 0
MachineTakesSteps = MachineSteps AreRows × MachineSteps AreSound

-- A run that delivers exact rows has one last state.
abbrev pub RunsAreUnique : Type 0
RunsAreUnique = (s a b : State) (steps : List BoardStep) → IsRun AreRows s steps a →
    IsRun AreRows s steps b → a ≡ b

-- A status computed from the board is the status of the machine.
abbrev pub StatusesAreShown : Type 0
StatusesAreShown = (b : Summary) (s : State) (number : ℕ) → ShowsState b s →
    shown_status b number ≡ status s number

-- A run that delivers exact rows delivers sound rows.
abbrev pub RunsAreSound : Type 0
RunsAreSound = (s last : State) (steps : List BoardStep) → IsRun AreRows s steps last →
    IsRun AreSound s steps last

-- A run of a machine with a lower limit is legal.
abbrev pub RunsAreLegal : Type 0
RunsAreLegal = (limit : ℕ) (last : State) (steps : List BoardStep) → limit ≤ MAX_EVENTS →
    IsRun AreRows (opening limit) steps last → IsLegal steps
