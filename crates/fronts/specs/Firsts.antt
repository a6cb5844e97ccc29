-- The first place of a thread, and of the sections on a lock. Threads and locks are numbered in the
-- order of their first places.
use Rattle.std.specs.Prelude.{ℕ, ◌+◌, ◌==◌, false, length, slice_get, Option, if◌then◌else◌}
use Rattle.std.specs.Option.{option_map, option_map_or, option_and_then}
use Rattle.trace_model.specs.Theory.Trace.{Trace}
use Rattle.trace_model.specs.Theory.Held.{begins_on, begun_lock}
use Rattle.trace_model.specs.Theory.Closure.{Places, ascending_places}
use Rattle.segments.specs.Linking.{count_below}
use Rattle.trace_index.specs.Numbers.{of_thread}

-- The first place of the place's thread.
abbrev pub first_of_thread : Trace → ℕ → Option ℕ
first_of_thread s p = option_and_then
    (λ e. slice_get (ascending_places (of_thread s e.thread) (length s)) 0) (slice_get s p)

-- The first place that begins a section on the lock on which this place begins one.
abbrev pub first_of_lock : Trace → ℕ → Option ℕ
first_of_lock s p = option_and_then
    (λ l. slice_get (ascending_places (begins_on s l) (length s)) 0) (begun_lock s p)

-- The place is its own first place, as a test.
abbrev pub is_first : (ℕ → Option ℕ) → Places
is_first firsts p = option_map_or (λ x. x == p) (firsts p) false

-- The number of first places below `n`.
abbrev pub firsts_below : (ℕ → Option ℕ) → ℕ → ℕ
firsts_below firsts = count_below (is_first firsts)

-- The slot of a place: the number of first places below its own first place.
abbrev pub slot_by : (ℕ → Option ℕ) → ℕ → Option ℕ
slot_by firsts p = option_map (firsts_below firsts) (firsts p)

-- The slot of the place's thread.
abbrev pub thread_slot_at : Trace → ℕ → Option ℕ
thread_slot_at s = slot_by (first_of_thread s)

-- The slot of the lock on which a section begins at the place.
abbrev pub lock_slot_at : Trace → ℕ → Option ℕ
lock_slot_at s = slot_by (first_of_lock s)

-- The number of threads that have a place below `n`.
abbrev pub threads_below : Trace → ℕ → ℕ
threads_below s = firsts_below (first_of_thread s)

-- The number of locks on which a section begins below `n`.
abbrev pub locks_below : Trace → ℕ → ℕ
locks_below s = firsts_below (first_of_lock s)

-- One slot more if this slot is the next new one.
abbrev pub slot_count_after : Option ℕ → ℕ → ℕ
slot_count_after slot count =
    option_map_or (λ a. if a == count then count + 1 else count) slot count
