-- The first frame of a text, and its length in bytes.
use Rattle.std.specs.Prelude.{◌≡◌, ℕ, ◌≤◌, List, length, drop, ◌++◌, Option, Some, None, Result, Ok, Err}
use Rattle.trace_model.specs.declared.traces.event.Event.{Event}
use Rattle.trace_model.specs.declared.messages.session.Request.{Request}
use Rattle.trace_model.specs.declared.messages.session.Request.TheVariants.{Offer}
use Rattle.trace_model.specs.declared.messages.session.Fault.{Fault}
use Rattle.trace_model.specs.Protocol.Frames.{FitsWords, frame, IsRequest, leading_of}

-- The result is the start of the text: a fault, no whole frame, or the first request and the length
-- of its frame.
abbrev pub IsLeading : List ℕ → Result (Option (Request × ℕ)) Fault → Type 0
IsLeading bytes (Err fault) = leading_of bytes ≡ Err fault
IsLeading bytes (Ok None) = leading_of bytes ≡ Ok None
IsLeading bytes (Ok (Some found)) = IsRequest found.0
    × (bytes ≡ frame found.0 ++ drop found.1 bytes)
    × (found.1 ≤ length bytes)

-- The text does not begin with the whole frame of an offer.
abbrev pub BeginsNoOffer : List ℕ → Type 0
BeginsNoOffer text = (event : Event) (rest : List ℕ) → FitsWords event →
    text ≡ frame (Offer event) ++ rest → ⊥
