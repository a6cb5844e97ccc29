-- The first event of a list that the admission check refuses.
use Rattle.std.specs.Prelude.{◌≡◌, ◌++◌, take, Option, Some, None}
use Rattle.trace_model.specs.declared.limits.TheConstants.{MAX_EVENTS}
use Rattle.trace_model.specs.declared.traces.event.Event.{Event}
use Rattle.trace_model.specs.Theory.Trace.{Trace, At}
use Rattle.trace_model.specs.Theory.Lawful.{refusal_of, IsWellFormed}
use Rattle.wellformed.specs.declared.tables.AdmissionTables.{AdmissionTables}
use Rattle.wellformed.specs.declared.whole_lists.FirstUnlawful.{FirstUnlawful}
use Rattle.wellformed.specs.Tables.{FollowEvents}

-- The events before the index are well formed, and the event at the index has this refusal after
-- them.
abbrev pub IsFirstUnlawful : Trace → FirstUnlawful → Type 0
IsFirstUnlawful s first =
    IsWellFormed (take first.index s)
    × ((e : Event) × At s first.index e
    × (refusal_of MAX_EVENTS (take first.index s) e ≡ Some first.refusal))

-- The result is the first unlawful event of the trace, or none if the trace is well formed.
abbrev pub IsPassage : Trace → Option FirstUnlawful → Type 0
IsPassage s None = IsWellFormed s
IsPassage s (Some first) = IsFirstUnlawful s first

-- The tables were `old` before the events and are `new` after them. Without a refusal they follow
-- the old events with the new ones after them. A refusal is the first unlawful event of the old
-- events followed by the new ones.
abbrev pub Admits : AdmissionTables → Trace → AdmissionTables → Option FirstUnlawful → Type 0
Admits old events new None = (s : Trace) → FollowEvents old s → FollowEvents new (s ++ events)
Admits old events new (Some first) =
    (s : Trace) → FollowEvents old s → IsFirstUnlawful (s ++ events) first
