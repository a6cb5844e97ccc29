-- What one more event changes in a trace.
use Rattle.std.proofs.Common.{◌≡◌, ℕ, ◌+◌, ◌<◌, ◌≤◌, false, cond, not, leb, ◌&&◌, ◌||◌, [], ◌∷◌, ◌++◌, length, Some, None, refl, sym, ap, subst, ◌∙◌, arith}
use Rattle.std.proofs.lemmas.Bool.{leb-false, lt-leb, ltb-true}
use Rattle.std.proofs.lemmas.List.Folds.{list_any-append}
use Rattle.std.proofs.lemmas.List.Sums.{sum_by-append}
use Rattle.trace_model.specs.declared.traces.event.Event.{Event}
use Rattle.trace_model.specs.declared.traces.event.Op.{Op}
use Rattle.trace_model.specs.declared.traces.event.Op.TheVariants.{Acquire, Release}
use Rattle.trace_model.specs.declared.refusal.Refusal.TheVariants.{Full, TooNested, HeldByOther, TooDeep, NotHeld}
use Rattle.trace_model.specs.declared.limits.TheConstants.{MAX_EVENTS, MAX_HELD, MAX_DEPTH}
use Rattle.trace_model.specs.Theory.Trace.{Trace, op_eq, occurs}
use Rattle.trace_model.specs.Theory.Held.{depth, depth_step, held_step, held_set}
use Rattle.trace_model.specs.Theory.Lawful.{is_fork, forks, held_by, held_by_other, op_refusal_of, refusal_of, IsWellFormed}
use Rattle.trace_model.specs.Theory.Dependencies.{dependency_of, dependency_at, with_new, dependencies}
use Rattle.trace_model.proofs.Theory.Prefix.{depth-agree, held_step-agree, held-agree}
use Rattle.trace_model.proofs.Theory.Lawful.{passes, passes_not, lawful_parts}
use Rattle.trace_model.proofs.Theory.Growing.{well_formed_take, well_formed_push}
use Rattle.trace_model.proofs.Theory.Dependencies.{dependencies-agree}
use Rattle.trace_model.proofs.Lists.{by_pushes, get-append, get-push_last, length-push, or-false, take-push}

pub stands-push : (s : Trace) (e : Event) (o : Op) → occurs (s ++ e ∷ []) o ≡ (occurs s o || op_eq e.op o)
stands-push s e o = list_any-append (λ d. op_eq d.op o) s (e ∷ []) ∙ ap (λ b. occurs s o || b) (or-false (op_eq e.op o))

pub forks-push : (s : Trace) (e : Event) → forks (s ++ e ∷ []) ≡ forks s + cond (is_fork e.op) 1 0
forks-push s e = omega (arith, sum_by-append (λ d. cond (is_fork d.op) 1 0) s (e ∷ []))

-- ---- held locks

depth-front : (s : Trace) (e : Event) (t l : ℕ) → depth (s ++ e ∷ []) (length s) t l ≡ depth s (length s) t l
depth-front s e t l = depth-agree (s ++ e ∷ []) s (length s) t l (λ p k. get-append s (e ∷ []) p k)

pub depth-push : (s : Trace) (e : Event) (t l : ℕ) → depth (s ++ e ∷ []) (length (s ++ e ∷ [])) t l ≡ depth_step (Some e) t l (depth s (length s) t l)
depth-push s e t l = rw (length-push s e, get-push_last s e, depth-front s e t l) refl

pub held-front : (s : Trace) (e : Event) (t : ℕ) → held_set (s ++ e ∷ []) (length s) t ≡ held_set s (length s) t
held-front s e t = held-agree (s ++ e ∷ []) s (length s) t (λ p l. get-append s (e ∷ []) p l)

pub held-push : (s : Trace) (e : Event) (t : ℕ) →
    held_set (s ++ e ∷ []) (length (s ++ e ∷ [])) t ≡ held_step (depth s (length s) t) (Some e) t (held_set s (length s) t)
held-push s e t =
    ap (λ n. held_set (s ++ e ∷ []) n t) (length-push s e)
    ∙ ap (λ o. held_step (depth (s ++ e ∷ []) (length s) t) o t (held_set (s ++ e ∷ []) (length s) t)) (get-push_last s e)
    ∙ ap (held_step (depth (s ++ e ∷ []) (length s) t) (Some e) t) (held-front s e t)
    ∙ held_step-agree (depth (s ++ e ∷ []) (length s) t) (depth s (length s) t) (Some e) t (held_set s (length s) t) (depth-front s e t)

-- ---- dependencies

pub dependency_at-push : (s : Trace) (e : Event) → dependency_at (s ++ e ∷ []) (length s) ≡ dependency_of e.thread e.op (held_set s (length s) e.thread)
dependency_at-push s e = rw (get-push_last s e, held-front s e e.thread) refl

pub dependencies-push : (s : Trace) (e : Event) → dependencies (s ++ e ∷ []) ≡ with_new (dependencies s) (dependency_of e.thread e.op (held_set s (length s) e.thread))
dependencies-push s e =
    rw (length-push s e, dependencies-agree (s ++ e ∷ []) s (length s) (λ p l. get-append s (e ∷ []) p l), dependency_at-push s e) refl

-- ---- lawful events

pub well_formed-front : (s : Trace) (e : Event) → IsWellFormed (s ++ e ∷ []) → IsWellFormed s
well_formed-front s e w = subst IsWellFormed (take-push s e) (well_formed_take (s ++ e ∷ []) (length s) w)

pub well_formed-last : (s : Trace) (e : Event) → IsWellFormed (s ++ e ∷ []) → refusal_of MAX_EVENTS s e ≡ None
well_formed-last s e w = subst (λ r. refusal_of MAX_EVENTS r e ≡ None) (take-push s e) (w (length s) e (get-push_last s e))

pub lawful_room : (limit : ℕ) (s : Trace) (e : Event) → refusal_of limit s e ≡ None → length s < limit
lawful_room limit s e h = leb-false limit (length s) (passes (leb limit (length s)) Full _ h).0

-- lawful at a lower limit is lawful at a higher one
pub lawful_higher : (limit more : ℕ) (s : Trace) (e : Event) → limit ≤ more → refusal_of limit s e ≡ None → refusal_of more s e ≡ None
lawful_higher limit more s e le h =
    let a = passes (leb limit (length s)) Full _ h in
    let room = leb-false limit (length s) a.0 in
    let b : leb more (length s) ≡ false = lt-leb more (length s) (omega arith) in
    rw b a.1

-- one more event that is lawful at a limit
pub well_formed_push_at : (limit : ℕ) (s : Trace) (e : Event) → limit ≤ MAX_EVENTS → IsWellFormed s → refusal_of limit s e ≡ None → IsWellFormed (s ++ e ∷ [])
well_formed_push_at limit s e le w h = well_formed_push s e w (lawful_higher limit MAX_EVENTS s e le h)

pub length_well_formed : (s : Trace) → IsWellFormed s → length s ≤ MAX_EVENTS
length_well_formed = by_pushes (λ s. IsWellFormed s → length s ≤ MAX_EVENTS) (λ w. omega arith)
    (λ s e known w. omega (arith, length-push s e, lawful_room MAX_EVENTS s e (well_formed-last s e w)))

pub lawful_op : (limit : ℕ) (s : Trace) (e : Event) → refusal_of limit s e ≡ None → op_refusal_of s e.thread e.op ≡ None
lawful_op limit s e h = (lawful_parts limit s e.thread e.op h).2

-- the tests that an acquire passed
pub lawful_acquire : (s : Trace) (t l : ℕ) → op_refusal_of s t (Acquire l) ≡ None →
    (depth s (length s) t l < MAX_DEPTH) × (held_by_other s t l ≡ false) × (held_by s t l ≡ false → length (held_set s (length s) t) < MAX_HELD)
lawful_acquire s t l h =
    let nested = passes (leb MAX_DEPTH (depth s (length s) t l)) TooNested _ h in
    let other = passes (held_by_other s t l) HeldByOther _ nested.1 in
    let deep = passes (not (held_by s t l) && leb MAX_HELD (length (held_set s (length s) t))) TooDeep _ other.1 in (
      leb-false MAX_DEPTH (depth s (length s) t l) nested.0,
      other.0,
      λ new. leb-false MAX_HELD (length (held_set s (length s) t)) (ap (λ b. not b && leb MAX_HELD (length (held_set s (length s) t))) (sym new) ∙ deep.0),
    )

pub lawful_release : (s : Trace) (t l : ℕ) → op_refusal_of s t (Release l) ≡ None → 0 < depth s (length s) t l
lawful_release s t l h = ltb-true 0 (depth s (length s) t l) (passes_not (held_by s t l) NotHeld h)
