-- The outcome of a batch (this project's profile).
use Rattle.std.specs.Prelude.{◌≡◌, ◌≤◌, List, length, take, slice_get, Option, Some, None}
use Rattle.trace_model.specs.declared.traces.event.Event.{Event}
use Rattle.trace_model.specs.declared.refusal.Refusal.{Refusal}
use Rattle.trace_model.specs.Protocol.Batches.{AreLawful}
use Rattle.trace_model.specs.Protocol.Machine.{State, with_events}
use Rattle.trace_model.specs.Theory.Lawful.{refusal_of}
use Rattle.sequencer.specs.Book.{BookView, RefusesOffer}
use Rattle.sequencer.specs.declared.batching.Batched.{Batched}

-- the first event is lawful, and memory is reserved for it
abbrev pub FirstIsReserved : BookView → List Event → Type 0
FirstIsReserved book events =
    (e : Event) × (slice_get events 0 ≡ Some e) × (book.reserved ≡ Some e)
    × (refusal_of book.state.limit book.state.accepted e ≡ None)

-- either no event is left, or the next one is refused: by the machine, or since an allocation
-- failed
abbrev pub EndsBatch : State → Option Event → Option Refusal → Type 0
EndsBatch s None None = Unit {0}
EndsBatch s (Some e) (Some r) = RefusesOffer s e r
EndsBatch s _ _ = ⊥

-- the first `accepted` events were appended, each lawful after those before it, and the refusal of
-- the next one is right
pub record IsBatched (s : State) (events : List Event) (batched : Batched)
    (after : State) : Type 0 where
  pub first : batched.length ≡ length s.accepted
  pub within : batched.accepted ≤ length events
  pub lawful : AreLawful s.limit s.accepted (take batched.accepted events)
  pub appended : after ≡ with_events s (take batched.accepted events)
  pub ended : EndsBatch after (slice_get events batched.accepted) batched.refusal
