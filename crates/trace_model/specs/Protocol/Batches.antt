-- Batches: events that one request offers.
use Rattle.std.specs.Prelude.{◌≡◌, ℕ, suc, ◌≤◌, ◌↔◌, List, [], ◌∷◌, ◌++◌, length, take, slice_get, Option, Some, None, MatchOption}
use Rattle.trace_model.specs.declared.messages.batch.TheConstants.{MAX_BATCH}
use Rattle.trace_model.specs.declared.traces.event.Event.{Event}
use Rattle.trace_model.specs.declared.refusal.Refusal.{Refusal}
use Rattle.trace_model.specs.Theory.Trace.{Trace}
use Rattle.trace_model.specs.Theory.Lawful.{refusal_of}

-- The list has 1 to MAX_BATCH events.
abbrev pub IsBatch : List Event → Type 0
IsBatch events = (1 ≤ length events) × (length events ≤ MAX_BATCH)

-- Each of the events is lawful after the trace and the events before it.
abbrev pub AreLawful : ℕ → Trace → List Event → Type 0
AreLawful limit s events = (k : ℕ) (e : Event) → slice_get events k ≡ Some e →
    refusal_of limit (s ++ take k events) e ≡ None

-- The count and refusal of a list, from the refusal of its first event and those of the rest.
abbrev pub taken_then : Option Refusal → ℕ × Option Refusal → ℕ × Option Refusal
taken_then None others = (suc others.0, others.1)
taken_then (Some r) others = (0, Some r)

-- How many events of the list are accepted, from the first on, and the refusal of the next one.
abbrev pub taken_of : ℕ → Trace → List Event → ℕ × Option Refusal
taken_of limit s [] = (0, None)
taken_of limit s (e ∷ events) =
    taken_then (refusal_of limit s e) (taken_of limit (s ++ e ∷ []) events)

-- The first `taken.0` events are lawful, each after those before it. `taken.1` is the refusal of
-- the next event, or none if there is no next event.
pub record IsLongest (limit : ℕ) (s : Trace) (events : List Event) (taken : ℕ
    × Option Refusal) : Type 0 where
  pub lawful : AreLawful limit s (take taken.0 events)
  pub ends : MatchOption taken.1 (taken.0 ≡ length events)
      (λ refusal. (e : Event) × (slice_get events taken.0 ≡ Some e)
      × (refusal_of limit (s ++ take taken.0 events) e ≡ Some refusal))

-- A batch is accepted up to its first event that is not lawful after the events before it.
abbrev pub BatchesAreLongest : Type 0
BatchesAreLongest = (limit : ℕ) (s : Trace) (events : List Event) (taken : ℕ × Option Refusal) →
    (taken_of limit s events ≡ taken) ↔ IsLongest limit s events taken
