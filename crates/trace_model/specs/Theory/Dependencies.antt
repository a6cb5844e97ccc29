-- Lock dependencies, numbered by first appearance. A dependency is an edge of the lock graph of
-- Havelund 2000, and an abstract acquire of Tunç et al. 2023.
use Rattle.std.specs.Prelude.{ℕ, zero, suc, Bool, ◌==◌, nat_eq, ◌&&◌, List, [], ◌∷◌, ◌++◌, length, slice_get, Option, Some, None, if◌then◌else◌}
use Rattle.std.specs.Cmp.Lexicographic.{pointwise}
use Rattle.std.specs.List.{list_any}
use Rattle.std.specs.Option.{option_and_then}
use Rattle.trace_model.specs.declared.traces.event.Op.{Op}
use Rattle.trace_model.specs.declared.traces.event.Op.TheVariants.{Acquire}
use Rattle.trace_model.specs.Theory.Trace.{Trace}
use Rattle.trace_model.specs.Theory.Held.{held_set, has}

-- A thread acquires a lock that it does not hold, while it holds the locks `held`, which ascend.
pub record Dependency : Type 0 where
  pub thread : ℕ
  pub lock : ℕ
  pub held : List ℕ

-- The dependency of operation o of thread t with held set ks. None unless o is an acquire of a lock
-- that is not held, and the held set is not empty.
abbrev pub dependency_of : ℕ → Op → List ℕ → Option Dependency
dependency_of t (Acquire l) (k ∷ ks) =
    if has l (k ∷ ks) then None else Some (record { thread = t; lock = l; held = k ∷ ks })
dependency_of t _ _ = None

-- The dependency of place p, or none unless p is an outermost acquire with a nonempty held set.
abbrev pub dependency_at : Trace → ℕ → Option Dependency
dependency_at s p = option_and_then (λ e. dependency_of e.thread e.op (held_set s p e.thread))
    (slice_get s p)

-- Equality of dependencies, as a derived `==` computes it.
abbrev pub same_dependency : Dependency → Dependency → Bool
same_dependency a b = (a.thread == b.thread) &&
    ((a.lock == b.lock) && pointwise nat_eq a.held b.held)

-- The list with one more dependency at its end, unless it contains that dependency.
abbrev pub with_new : List Dependency → Option Dependency → List Dependency
with_new ds None = ds
with_new ds (Some d) = if list_any (same_dependency d) ds then ds else ds ++ d ∷ []

-- The distinct dependencies of the first n events, by first appearance.
abbrev pub dependencies_below : Trace → ℕ → List Dependency
dependencies_below s zero = []
dependencies_below s (suc n) = with_new (dependencies_below s n) (dependency_at s n)

-- The distinct dependencies of the trace, by first appearance. Their 0-based indices are their
-- numbers.
abbrev pub dependencies : Trace → List Dependency
dependencies s = dependencies_below s (length s)
