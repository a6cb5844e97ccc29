-- The result of a run (this project's profile).
use Rattle.std.specs.Prelude.{◌≡◌, ℕ, ◌<◌, List, length, slice_get, Some}
use Rattle.trace_model.specs.Protocol.Machine.{State}
use Rattle.sequencer.specs.declared.input.Input.{Input}
use Rattle.sequencer.specs.declared.playing.PlayRefused.{PlayRefused}
use Rattle.sequencer.specs.declared.playing.PlayRefused.TheVariants.{BadLimit, NoMemory}
use Rattle.sequencer.specs.Book.{BookView, IsBookLimit}
use Rattle.sequencer.specs.Deliveries.{DeliveryResult}
use Rattle.sequencer.specs.Sessions.{sent_to}

-- the bytes that each session was sent, the outcome of each finding, and the book
pub record PlayOutcome : Type 0 where
  pub sent : List (List ℕ)
  pub deliveries : List DeliveryResult
  pub book : BookView

-- each of the 64 sessions was sent exactly the bytes of `sent_to`
abbrev pub AreSent : List (List ℕ) → State → List Input → Type 0
AreSent sent start inputs =
    (length sent ≡ 64) × ((s : ℕ) → s < 64 → slice_get sent s ≡ Some (sent_to s start inputs))

-- a limit is refused exactly if it is not allowed; lack of memory is reported for an allowed one
abbrev pub IsRightlyRefused : ℕ → PlayRefused → Type 0
IsRightlyRefused limit BadLimit = IsBookLimit limit → ⊥
IsRightlyRefused limit NoMemory = IsBookLimit limit
