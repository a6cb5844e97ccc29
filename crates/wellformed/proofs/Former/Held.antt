-- Held sets and dependencies of a flat trace agree in both definitions.
use Rattle.std.proofs.Common.{◌≡◌, ℕ, zero, suc, ◌≤◌, Bool, true, false, cond, ◌==◌, List, [], ◌∷◌, length, slice_get, Option, Some, None, refl, sym, ap, ◌∙◌, arith}
use Rattle.std.proofs.lemmas.Bool.{le-leb}
use Rattle.std.specs.Option.{option_and_then}
use Rattle.trace_model.specs.declared.traces.event.Event.{Event}
use Rattle.trace_model.specs.declared.traces.event.Op.{Op}
use Rattle.trace_model.specs.declared.traces.event.Op.TheVariants.{Acquire, Release}
use Rattle.trace_model.specs.Theory.Trace.{Trace, event, At, Does}
use Rattle.trace_model.specs.Theory.Held.{depth, has, held_set, held_after, held_step, without_lock, BeginsOn}
use Rattle.trace_model.specs.Theory.Dependencies.{dependency_of, dependency_at, dependencies_below, dependencies, with_new}
use Rattle.trace_model.proofs.Theory.Held.{held_so}
use Rattle.wellformed.specs.Flat.{IsFlat}
use Rattle.wellformed.specs.Former.Held as former
use Rattle.wellformed.specs.Former.Dependencies as former_dependencies
use Rattle.wellformed.proofs.Taken.{flat_below, flat_shallow}

after_is : (depths : ℕ → ℕ) → ((l : ℕ) → depths l ≤ 1) → (op : Op) (ks : List ℕ) → former.former_held_after op ks ≡ held_after depths op ks
after_is depths few (Release l) ks = ap (λ b. cond b (without_lock l ks) ks) (sym (le-leb (depths l) 1 (few l)))
after_is depths few _ ks = refl

step_is : (depths : ℕ → ℕ) → ((l : ℕ) → depths l ≤ 1) → (o : Option Event) (t : ℕ) (ks : List ℕ) → former.former_held_step o t ks ≡ held_step depths o t ks
step_is depths few None t ks = refl
step_is depths few (Some e) t ks = ap (λ xs. cond (e.thread == t) xs ks) (after_is depths few e.op ks)

free_dependency : (t l : ℕ) (ks : List ℕ) → has l ks ≡ false → former_dependencies.former_dependency_of t (Acquire l) ks ≡ dependency_of t (Acquire l) ks
free_dependency t l [] h = refl
free_dependency t l (k ∷ ks) h = ap (λ b. cond b None (Some (record { thread = t; lock = l; held = k ∷ ks }))) (sym h)

module _ (s : Trace) (flat : IsFlat s) where
  pub shallow : (p t l : ℕ) → depth s p t l ≤ 1
  shallow p t l = flat_shallow s p (flat_below s p flat) p t l (omega arith)

  pub held_is : (p t : ℕ) → former.former_held s p t ≡ held_set s p t
  held_is zero t = refl
  held_is (suc p) t =
      ap (former.former_held_step (slice_get s p) t) (held_is p t)
      ∙ step_is (depth s p t) (shallow p t) (slice_get s p) t (held_set s p t)

  -- each acquire begins a section, and each section begins with one
  pub begins_on : (p l : ℕ) → Does s p (Acquire l) → BeginsOn s p l
  begins_on p l (t, at) = (t, (at, flat p t l at))

  pub acquires_on : (p l : ℕ) → BeginsOn s p l → Does s p (Acquire l)
  acquires_on p l (t, begins) = (t, begins.0)

  -- an acquired lock is not held
  pub lacks : (p t l : ℕ) → At s p (event t (Acquire l)) → has l (held_set s p t) ≡ false
  lacks p t l at = go (has l (held_set s p t)) refl
    where
      go : (b : Bool) → has l (held_set s p t) ≡ b → b ≡ false
      go true h = absurd (omega (arith, held_so s p t l h, flat p t l at))
      go false h = refl

  op_dependency : (p t : ℕ) (op : Op) → At s p (event t op) →
      former_dependencies.former_dependency_of t op (held_set s p t) ≡ dependency_of t op (held_set s p t)
  op_dependency p t (Acquire l) at = free_dependency t l (held_set s p t) (lacks p t l at)
  op_dependency p t _ at = refl

  pub dependency_at_is : (p : ℕ) → former_dependencies.former_dependency_at s p ≡ dependency_at s p
  dependency_at_is p = go (slice_get s p) refl
    where
      go : (o : Option Event) → slice_get s p ≡ o →
          option_and_then (λ e. former_dependencies.former_dependency_of e.thread e.op (former.former_held s p e.thread)) o
          ≡ option_and_then (λ e. dependency_of e.thread e.op (held_set s p e.thread)) o
      go None at = refl
      go (Some x) at = ap (former_dependencies.former_dependency_of x.thread x.op) (held_is p x.thread) ∙ op_dependency p x.thread x.op at

  below_is : (n : ℕ) → former_dependencies.former_dependencies_below s n ≡ dependencies_below s n
  below_is zero = refl
  below_is (suc n) =
      ap (λ ds. with_new ds (former_dependencies.former_dependency_at s n)) (below_is n)
      ∙ ap (with_new (dependencies_below s n)) (dependency_at_is n)

  pub dependencies_are : former_dependencies.former_dependencies s ≡ dependencies s
  dependencies_are = below_is (length s)
