-- The lock on which a section begins at a place.
use Rattle.std.proofs.Common.{◌≡◌, ℕ, Bool, true, false, cond, ◌==◌, slice_get, Option, Some, None, refl, ap, subst, ◌∙◌}
use Rattle.std.proofs.lemmas.Bool.{eqb-true, eq-eqb}
use Rattle.std.proofs.lemmas.Option.{none-some, same_Some}
use Rattle.std.specs.Option.{option_and_then}
use Rattle.trace_model.specs.declared.traces.event.Event.{Event}
use Rattle.trace_model.specs.declared.traces.event.Op.{Op}
use Rattle.trace_model.specs.declared.traces.event.Op.TheVariants.{Fork, Join, Acquire, Release, Read, Write}
use Rattle.trace_model.specs.Theory.Trace.{Trace, At, event}
use Rattle.trace_model.specs.Theory.Held.{depth, BeginsOn, begun_of, begun_lock}

pub begun_so : (s : Trace) (p k : ℕ) → begun_lock s p ≡ Some k → BeginsOn s p k
begun_so s p k h = go (slice_get s p) refl h
  where
    outer : (t l : ℕ) → At s p (event t (Acquire l)) → (b : Bool) → (depth s p t l == 0) ≡ b →
        cond b (Some l) None ≡ Some k → BeginsOn s p k
    outer t l at true e f = subst (BeginsOn s p) (same_Some l k f) (t, (at, eqb-true (depth s p t l) 0 e))
    outer t l at false e f = absurd (none-some k f)

    by_op : (t : ℕ) (o : Op) → At s p (event t o) → begun_of s p t o ≡ Some k → BeginsOn s p k
    by_op t (Acquire l) at f = outer t l at (depth s p t l == 0) refl f
    by_op t (Fork l) at f = absurd (none-some k f)
    by_op t (Join l) at f = absurd (none-some k f)
    by_op t (Release l) at f = absurd (none-some k f)
    by_op t (Read l) at f = absurd (none-some k f)
    by_op t (Write l) at f = absurd (none-some k f)

    go : (o : Option Event) → slice_get s p ≡ o →
        option_and_then (λ e. begun_of s p e.thread e.op) o ≡ Some k → BeginsOn s p k
    go None e f = absurd (none-some k f)
    go (Some x) e f = by_op x.thread x.op e f

pub begun_from : (s : Trace) (p k : ℕ) → BeginsOn s p k → begun_lock s p ≡ Some k
begun_from s p k (t, (at, none)) =
    ap (option_and_then (λ e. begun_of s p e.thread e.op)) at
    ∙ ap (λ b. cond b (Some k) None) (eq-eqb (depth s p t k) 0 none)
