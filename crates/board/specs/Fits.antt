-- How one run follows another, and the views of writer and reader (this project's profile).
use Rattle.std.specs.Prelude.{◌≡◌, ◌+◌, ◌==◌, cond, List, [], ◌∷◌, ◌++◌, length, take, ℕ, Option, Some, None}
use Rattle.trace_model.specs.declared.messages.step.BoardStep.{BoardStep}
use Rattle.trace_model.specs.declared.messages.step.BoardStep.TheVariants.{Accept}

-- the run ends with this step
abbrev pub EndsWith : List BoardStep → BoardStep → Type 0
EndsWith run step = (before : List BoardStep) × (run ≡ before ++ step ∷ [])

-- `next` if it is one step longer than the run, else the run
abbrev pub longer_run : List BoardStep → List BoardStep → List BoardStep
longer_run run next = cond (length next == length run + 1) next run

-- the run after an optional change
abbrev pub after_change : List BoardStep → Option (List BoardStep) → List BoardStep
after_change run None = run
after_change run (Some next) = longer_run run next

-- the writer: the published steps, and the steps that wait to be published
pub record WriterView : Type 0 where
  pub published : List BoardStep
  pub waiting : List BoardStep

-- The content of the queue of changes while a step waits: an empty change, which reserves the
-- memory of the real one.
abbrev pub room_of : {A : Type 0} → Option BoardStep → List (Option A)
room_of None = []
room_of (Some step) = None ∷ []

abbrev pub list_of : Option BoardStep → List BoardStep
list_of None = []
list_of (Some step) = step ∷ []

-- a step with its events cut to the first `n`
abbrev pub truncated_step : ℕ → BoardStep → BoardStep
truncated_step n (Accept events) = Accept (take n events)
truncated_step n step = step

-- a reader: the steps that it has seen, those that it has seen or learned from receipts, and the
-- number of its entries that failed, modulo 2^64
pub record ReaderView : Type 0 where
  pub seen : List BoardStep
  pub known : List BoardStep
  pub failed : ℕ
