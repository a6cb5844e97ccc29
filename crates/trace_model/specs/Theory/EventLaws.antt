-- Laws on one more event, for gates and tables.
use Rattle.std.specs.Prelude.{◌≡◌, ℕ, ◌+◌, ◌<◌, ◌≤◌, ◌||◌, ◌∷◌, [], ◌++◌, cond, length, Some, None}
use Rattle.std.specs.List.{count_by}
use Rattle.trace_model.specs.declared.traces.event.Event.{Event}
use Rattle.trace_model.specs.declared.traces.event.Op.{Op}
use Rattle.trace_model.specs.declared.limits.TheConstants.{MAX_HELD, MAX_DEPTH}
use Rattle.trace_model.specs.Theory.Trace.{Trace, op_eq, occurs}
use Rattle.trace_model.specs.Theory.Held.{depth, depth_step, held_step, held_set}
use Rattle.trace_model.specs.Theory.Lawful.{is_fork, forks, held_by_other, refusal_of, IsWellFormed}
use Rattle.trace_model.specs.Theory.Holders.{owner, owner_after, depth_by, is_other_owner, is_acquire_by, is_release_by}
use Rattle.trace_model.specs.Theory.Dependencies.{dependency_of, with_new, dependencies}

-- How each value computed from a trace changes with one more event.
pub record OneMoreEvent : Type 0 where
  pub stands_more : (s : Trace) (e : Event) (o : Op) →
      occurs (s ++ e ∷ []) o ≡ (occurs s o || op_eq e.op o)
  pub forks_more : (s : Trace) (e : Event) → forks (s ++ e ∷ []) ≡ forks s +
      (cond (is_fork e.op) 1 0)
  pub owner_more : (s : Trace) (e : Event) (l : ℕ) →
      owner (s ++ e ∷ []) l ≡ owner_after l (owner s l) e
  pub depth_more : (s : Trace) (e : Event) (t l : ℕ) →
      depth (s ++ e ∷ []) (length (s ++ e ∷ [])) t l ≡ depth_step (Some e) t l
      (depth s (length s) t l)
  pub held_more : (s : Trace) (e : Event) (t : ℕ) →
      held_set (s ++ e ∷ []) (length (s ++ e ∷ [])) t ≡ held_step (depth s (length s) t) (Some e) t
      (held_set s (length s) t)
  pub dependencies_more : (s : Trace) (e : Event) →
      dependencies (s ++ e ∷ []) ≡ with_new (dependencies s)
      (dependency_of e.thread e.op (held_set s (length s) e.thread))

-- In a well-formed trace the owner of a lock says at which depth each thread holds it, and whether
-- another thread holds it.
abbrev pub OwnerHolds : Type 0
OwnerHolds = (s : Trace) → IsWellFormed s → (t l : ℕ) →
    (depth s (length s) t l ≡ depth_by (owner s l) t)
    × (held_by_other s t l ≡ is_other_owner (owner s l) t)

-- In a well-formed trace a thread holds at most MAX_HELD locks, each at most at MAX_DEPTH, and the
-- depth is the number of acquires less the number of releases.
abbrev pub HeldAreFew : Type 0
HeldAreFew = (s : Trace) → IsWellFormed s → (t : ℕ) →
    ((p : ℕ) → length (held_set s p t) ≤ MAX_HELD)
    × ((p l : ℕ) → depth s p t l ≤ MAX_DEPTH)
    × ((l : ℕ) → count_by (is_acquire_by t l) s ≡ count_by (is_release_by t l) s +
    depth s (length s) t l)

-- An event that is lawful at a limit fits below it, and is lawful at a higher limit.
abbrev pub LawfulHigher : Type 0
LawfulHigher = (limit more : ℕ) (s : Trace) (e : Event) → limit ≤ more →
    refusal_of limit s e ≡ None →
    (length s < limit) × (refusal_of more s e ≡ None)
