-- The events of a batch, as they are stored.
use Rattle.std.specs.Prelude.{◌≡◌, ◌≤◌, List, [], ◌∷◌, length, refl}
use Rattle.std.proofs.Common.{arith}
use Rattle.arrayvec.specs.ArrayVec.{array_vec_len}
use Rattle.trace_model.specs.declared.messages.batch.Events.{Events}
use Rattle.trace_model.specs.declared.messages.batch.Events.TheVariants.{One, Many}
use Rattle.trace_model.specs.declared.traces.event.Event.{Event}

-- The stored events, in order.
abbrev pub events_in : Events → List Event
events_in (One e) = e ∷ []
events_in (Many events) = events.items

-- The stored form of a list of events.
abbrev pub events_back : List Event → Events
events_back (e ∷ []) = One e
events_back events = Many (record { items = events })

-- A list with capacity for more than one event has at least two.
abbrev pub IsProper : Events → Type 0
IsProper (One e) = Unit {0}
IsProper (Many events) = 2 ≤ array_vec_len events

-- A list of at least two events is stored as a list.
many_come_back : (events : List Event) → 2 ≤ length events →
    events_back events ≡ Many (record { items = events })
many_come_back [] h = absurd (omega arith)
many_come_back (e ∷ []) h = absurd (omega arith)
many_come_back (e ∷ f ∷ events) h = refl

-- Stored events that are proper are the stored form of their list.
pub events_come_back : (events : Events) → IsProper events → events_back (events_in events) ≡ events
events_come_back (One e) h = refl
events_come_back (Many events) h = many_come_back events.items h
