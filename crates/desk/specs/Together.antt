-- Findings delivered one after another with nothing in between (this project's profile).
use Rattle.std.specs.Prelude.{◌≡◌, ℕ, List, [], ◌∷◌, ◌++◌, length, map, take, slice_get, Some, None, Ok, Err}
use Rattle.trace_model.specs.declared.messages.step.BoardStep.{BoardStep}
use Rattle.snapshots.specs.Found.{AreRowsOf, RowsOfTask}
use Rattle.sequencer.specs.Deliveries.{DeliveryResult, delivery}
use Rattle.desk.specs.Published.{Afterwards, delivery_step}
use Rattle.desk.specs.Refused.{RefusesFinding}

-- the findings that were taken, in order
abbrev pub taken_findings : List RowsOfTask → List DeliveryResult → List RowsOfTask
taken_findings (f ∷ findings) (Ok u ∷ outcomes) = f ∷ taken_findings findings outcomes
taken_findings (f ∷ findings) (Err refused ∷ outcomes) = taken_findings findings outcomes
taken_findings _ _ = []

-- the steps that publish these
abbrev pub taken_steps : List RowsOfTask → List DeliveryResult → List BoardStep
taken_steps findings outcomes = map delivery_step (taken_findings findings outcomes)

-- the outcome of a finding that is delivered after the run is right: it is taken and its rows are
-- exact, or it is refused and given back
abbrev pub IsOutcome : ℕ → List BoardStep → RowsOfTask → DeliveryResult → Type 0
IsOutcome limit run f (Ok u) =
    Afterwards limit run (λ state. (delivery state f).0 ≡ None)
    × AreRowsOf f.events f.bound f.task f.rows
IsOutcome limit run f (Err refused) =
    Afterwards limit run (λ state. RefusesFinding state f refused.0) × (refused.1 ≡ f)

-- the outcome of each finding is right after the run and the findings before it that were taken
pub record AreOutcomes (limit : ℕ) (run : List BoardStep) (findings : List RowsOfTask)
    (outcomes : List DeliveryResult) : Type 0 where
  pub count : length outcomes ≡ length findings
  pub each : (k : ℕ) (f : RowsOfTask) (outcome : DeliveryResult) → slice_get findings k ≡ Some f →
      slice_get outcomes k ≡ Some outcome →
      IsOutcome limit (run ++ taken_steps (take k findings) (take k outcomes)) f outcome

-- the run ends with the steps of the findings that were taken; all were delivered after the steps
-- before those
pub record EndsByAll (limit : ℕ) (run : List BoardStep) (findings : List RowsOfTask)
    (outcomes : List DeliveryResult) : Type 0 where
  pub before : List BoardStep
  pub ends : run ≡ before ++ taken_steps findings outcomes
  pub are : AreOutcomes limit before findings outcomes
