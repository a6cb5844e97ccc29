-- Tables of the states of threads.
use Rattle.std.specs.Prelude.{ℕ, List, ◌+◌, ◌-◌, ◌==◌, false, ◌||◌, if◌then◌else◌, nat_eq, nat_le, IsSome, unwrap_or}
use Rattle.std.specs.Map.{lookup}
use Rattle.trace_model.specs.declared.traces.event.Event.{Event}
use Rattle.trace_model.specs.declared.traces.event.Op.{Op}
use Rattle.trace_model.specs.declared.traces.event.Op.TheVariants.{Fork, Join, Acquire, Release}
use Rattle.trace_model.specs.Theory.Trace.{op_eq}
use Rattle.wellformed.specs.declared.threads.ThreadEntry.{ThreadEntry}

-- The state of each thread, by thread number.
abbrev pub ThreadTable : Type 0
ThreadTable = List (ℕ × ThreadEntry)

-- The state of a thread that no event names.
abbrev pub unknown_thread : ThreadEntry
unknown_thread = record { forked = false; joined = false; held = 0 }

-- The state of the thread in the table.
abbrev pub thread_in : ThreadTable → ℕ → ThreadEntry
thread_in m t = unwrap_or (lookup (nat_eq t) m) unknown_thread

-- The thread has an entry.
abbrev pub HasThread : ThreadTable → ℕ → Type 0
HasThread m t = IsSome (lookup (nat_eq t) m)

-- The number of held locks after the operation, if it was n before and the depth of its lock was
-- `depth`.
abbrev pub held_count_after : ℕ → Op → ℕ → ℕ
held_count_after depth (Acquire l) n = if depth == 0 then n + 1 else n
held_count_after depth (Release l) n = if nat_le depth 1 then n - 1 else n
held_count_after depth _ n = n

-- The state of thread t after event e, if it was x before and the depth of the lock was `depth`.
abbrev pub thread_after : ℕ → Event → ℕ → ThreadEntry → ThreadEntry
thread_after depth e t x = record {
  forked = x.forked || op_eq e.op (Fork t);
  joined = x.joined || op_eq e.op (Join t);
  held = if e.thread == t then held_count_after depth e.op x.held else x.held;
}
