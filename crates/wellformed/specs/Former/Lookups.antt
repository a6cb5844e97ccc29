-- The release of an acquire, without inner acquires.
use Rattle.std.specs.Prelude.{ℕ, suc, ◌-◌, length, slice_get, Option, None}
use Rattle.std.specs.Option.{option_and_then}
use Rattle.trace_model.specs.declared.traces.event.Op.{Op}
use Rattle.trace_model.specs.declared.traces.event.Op.TheVariants.{Acquire, Release}
use Rattle.trace_model.specs.Theory.Trace.{Trace, does, first_place}

-- The first later release of the lock, if operation o is an acquire at place p.
abbrev pub former_release_of : Trace → ℕ → Op → Option ℕ
former_release_of s p (Acquire l) = first_place (does s (Release l)) (suc p) (length s - suc p)
former_release_of s p _ = None

-- The release of the acquire at place p, or none.
abbrev pub former_release : Trace → ℕ → Option ℕ
former_release s p = option_and_then (λ e. former_release_of s p e.op) (slice_get s p)
