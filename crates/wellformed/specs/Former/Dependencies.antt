-- Lock dependencies, without inner acquires.
use Rattle.std.specs.Prelude.{ℕ, zero, suc, List, [], ◌∷◌, length, slice_get, Option, Some, None}
use Rattle.std.specs.Option.{option_and_then}
use Rattle.trace_model.specs.declared.traces.event.Op.{Op}
use Rattle.trace_model.specs.declared.traces.event.Op.TheVariants.{Acquire}
use Rattle.trace_model.specs.Theory.Trace.{Trace}
use Rattle.trace_model.specs.Theory.Dependencies.{Dependency, with_new}
use Rattle.wellformed.specs.Former.Held.{former_held}

-- The dependency of operation o of thread t with held set ks, or none.
abbrev pub former_dependency_of : ℕ → Op → List ℕ → Option Dependency
former_dependency_of t (Acquire l) (k ∷ ks) = Some (record { thread = t; lock = l; held = k ∷ ks })
former_dependency_of t _ _ = None

-- The dependency of place p, if p is an acquire with a nonempty held set.
abbrev pub former_dependency_at : Trace → ℕ → Option Dependency
former_dependency_at s p =
    option_and_then (λ e. former_dependency_of e.thread e.op (former_held s p e.thread))
    (slice_get s p)

-- The distinct dependencies of the first n events, by first appearance.
abbrev pub former_dependencies_below : Trace → ℕ → List Dependency
former_dependencies_below s zero = []
former_dependencies_below s (suc n) =
    with_new (former_dependencies_below s n) (former_dependency_at s n)

-- The distinct dependencies of the trace, by first appearance.
abbrev pub former_dependencies : Trace → List Dependency
former_dependencies s = former_dependencies_below s (length s)
