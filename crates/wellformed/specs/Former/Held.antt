-- Held locks, without inner acquires.
use Rattle.std.specs.Prelude.{ℕ, zero, suc, List, [], slice_get, Option, Some, None, ◌==◌, if◌then◌else◌}
use Rattle.trace_model.specs.declared.traces.event.Event.{Event}
use Rattle.trace_model.specs.declared.traces.event.Op.{Op}
use Rattle.trace_model.specs.declared.traces.event.Op.TheVariants.{Acquire, Release}
use Rattle.trace_model.specs.Theory.Trace.{Trace, Does}
use Rattle.trace_model.specs.Theory.Held.{with_lock, without_lock}

-- Some thread acquires lock l at place p, which begins a critical section.
abbrev pub FormerBeginsOn : Trace → ℕ → ℕ → Type 0
FormerBeginsOn s p l = Does s p (Acquire l)

-- The held set after operation o, if it was ks before.
abbrev pub former_held_after : Op → List ℕ → List ℕ
former_held_after (Acquire l) ks = with_lock l ks
former_held_after (Release l) ks = without_lock l ks
former_held_after _ ks = ks

-- The held set of thread t after one more event, or after none.
abbrev pub former_held_step : Option Event → ℕ → List ℕ → List ℕ
former_held_step None t ks = ks
former_held_step (Some e) t ks = if e.thread == t then former_held_after e.op ks else ks

-- The held set of thread t right before place p, ascending.
abbrev pub former_held : Trace → ℕ → ℕ → List ℕ
former_held s zero t = []
former_held s (suc p) t = former_held_step (slice_get s p) t (former_held s p t)
