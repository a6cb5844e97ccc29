-- Batches at a desk (this project's profile).
use Rattle.std.specs.Prelude.{◌≡◌, ℕ, List, [], ◌∷◌, ◌++◌, take}
use Rattle.trace_model.specs.declared.traces.event.Event.{Event}
use Rattle.trace_model.specs.declared.messages.step.BoardStep.{BoardStep}
use Rattle.trace_model.specs.declared.messages.step.BoardStep.TheVariants.{Accept}
use Rattle.trace_model.specs.Protocol.Machine.{State}
use Rattle.sequencer.specs.Batched.{IsBatched}
use Rattle.sequencer.specs.declared.batching.Batched.{Batched}
use Rattle.desk.specs.Published.{After}

-- the one step that publishes the accepted events, or none if there are none
abbrev pub accept_steps : List Event → List BoardStep
accept_steps [] = []
accept_steps (e ∷ events) = Accept (e ∷ events) ∷ []

-- the run ends with the step of the accepted events, and the refusal of the next event is right
-- after it
pub record EndsByBatch (limit : ℕ) (run : List BoardStep) (events : List Event)
    (batched : Batched) : Type 0 where
  pub before : List BoardStep
  pub state : State
  pub next : State
  pub ends : run ≡ before ++ accept_steps (take batched.accepted events)
  pub was : After limit before state
  pub is : After limit run next
  pub went : IsBatched state events batched next
