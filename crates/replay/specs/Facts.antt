-- Facts about each place of the trace.
use Rattle.std.specs.Prelude.{◌≡◌, ℕ, zero, suc, ◌<◌, Bool, false, ◌==◌, List, [], ◌∷◌, ◌++◌, length, slice_get, nat_eq, Option, Some, None}
use Rattle.std.specs.HashMap.{get}
use Rattle.std.specs.Option.{option_and_then, option_map_or}
use Rattle.trace_model.specs.declared.traces.event.Op.{Op}
use Rattle.trace_model.specs.declared.traces.event.Op.TheVariants.{Read}
use Rattle.trace_model.specs.Theory.Trace.{Trace, last_place}
use Rattle.trace_model.specs.Theory.Held.{begun_lock}
use Rattle.trace_model.specs.Theory.Lookups.{writer, release}
use Rattle.replay.specs.declared.facts.Facts.{Facts}

-- The place is one of the thread, as a test.
abbrev pub is_of_thread : Trace → ℕ → ℕ → Bool
is_of_thread s t p = option_map_or (λ e. e.thread == t) (slice_get s p) false

-- The previous place of its thread.
abbrev pub previous : Trace → ℕ → Option ℕ
previous s q = option_and_then (λ e. last_place (is_of_thread s e.thread) q) (slice_get s q)

-- The values of a function for each number below `n`.
abbrev pub each : {X : Type 0} → (ℕ → X) → ℕ → List X
each f zero = []
each f (suc n) = each f n ++ f n ∷ []

-- The table's entry for the variable of a read.
abbrev pub of_read : (ℕ → Option ℕ) → Op → Option ℕ
of_read table (Read v) = table v
of_read table _ = None

-- The tables are those of the trace.
pub record AreFacts (s : Trace) (f : Facts) : Type 0 where
  pub previous : (q : ℕ) → q < length s → slice_get f.previous.items q ≡ Some (previous s q)
  pub writers : (q : ℕ) → q < length s → slice_get f.writers.items q ≡ Some (writer s q)
  pub begins : (q : ℕ) → q < length s → slice_get f.begins.items q ≡ Some (begun_lock s q)
  pub releases : (q : ℕ) → q < length s → slice_get f.releases.items q ≡ Some (release s q)
  pub lasts : (t : ℕ) → get nat_eq f.lasts t ≡ last_place (is_of_thread s t) (length s)
