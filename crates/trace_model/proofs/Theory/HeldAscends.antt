-- The list of held locks ascends.
use Rattle.std.proofs.Common.{◌≡◌, ℕ, zero, suc, ◌+◌, ◌<◌, Bool, true, false, cond, not, ◌==◌, ltb, leb, List, [], ◌∷◌, slice_get, Option, Some, None, refl, arith}
use Rattle.std.proofs.lemmas.Bool.{eqb-false, ltb-true, ltb-false}
use Rattle.std.specs.List.Sorted.{IsStrictlyIncreasing}
use Rattle.trace_model.specs.declared.traces.event.Event.{Event}
use Rattle.trace_model.specs.declared.traces.event.Op.{Op}
use Rattle.trace_model.specs.declared.traces.event.Op.TheVariants.{Fork, Join, Acquire, Release, Read, Write}
use Rattle.trace_model.specs.Theory.Trace.{Trace}
use Rattle.trace_model.specs.Theory.Held.{depth, with_lock, without_lock, held_after, held_step, held_set}

-- above every element
abbrev pub Above : ℕ → List ℕ → Type 0
Above l [] = Unit {0}
Above l (k ∷ ks) = l < k

pub above_lower : (l m : ℕ) (ks : List ℕ) → l < m → Above m ks → Above l ks
above_lower l m [] a b = tt
above_lower l m (k ∷ ks) a b = omega arith

abbrev pub Ascends : List ℕ → Type 0
Ascends [] = Unit {0}
Ascends (k ∷ ks) = Above k ks × Ascends ks

pub with_above : (j l : ℕ) (ks : List ℕ) → j < l → Above j ks → Above j (with_lock l ks)
with_above j l [] a b = a
with_above j l (k ∷ ks) a b = go (ltb l k) (l == k)
  where
    go : (x y : Bool) → Above j (cond x (l ∷ k ∷ ks) (cond y (k ∷ ks) (k ∷ with_lock l ks)))
    go true y = a
    go false true = b
    go false false = b

pub with_ascends : (l : ℕ) (ks : List ℕ) → Ascends ks → Ascends (with_lock l ks)
with_ascends l [] h = (tt, tt)
with_ascends l (k ∷ ks) h = go (with_ascends l ks h.1) (ltb l k) refl (l == k) refl
  where
    go : Ascends (with_lock l ks) → (x : Bool) → ltb l k ≡ x → (y : Bool) → (l == k) ≡ y →
        Ascends (cond x (l ∷ k ∷ ks) (cond y (k ∷ ks) (k ∷ with_lock l ks)))
    go more true a y b = (ltb-true l k a, h)
    go more false a true b = h
    go more false a false b =
        let le = ltb-false l k a in
        let other = eqb-false l k b in
        (with_above k l ks (omega (arith, le, other)) h.0, more)

pub without_above : (j l : ℕ) (ks : List ℕ) → Above j ks → Ascends ks → Above j (without_lock l ks)
without_above j l [] a h = tt
without_above j l (k ∷ ks) a h = go (without_above j l ks (above_lower j k ks a h.0) h.1) (k == l)
  where
    go : Above j (without_lock l ks) → (x : Bool) → Above j (cond (not x) (k ∷ without_lock l ks) (without_lock l ks))
    go more true = more
    go more false = a

pub without_ascends : (l : ℕ) (ks : List ℕ) → Ascends ks → Ascends (without_lock l ks)
without_ascends l [] h = tt
without_ascends l (k ∷ ks) h = go (without_ascends l ks h.1) (k == l)
  where
    go : Ascends (without_lock l ks) → (x : Bool) → Ascends (cond (not x) (k ∷ without_lock l ks) (without_lock l ks))
    go more true = more
    go more false = (without_above k l ks h.0 h.1, more)

pub after_ascends : (depths : ℕ → ℕ) (o : Op) (ks : List ℕ) → Ascends ks → Ascends (held_after depths o ks)
after_ascends depths (Acquire l) ks h = with_ascends l ks h
after_ascends depths (Release l) ks h = elim (leb (depths l) 1) as (λ b. Ascends (cond b (without_lock l ks) ks)) [ true ↦ without_ascends l ks h | false ↦ h ]
after_ascends depths (Fork l) ks h = h
after_ascends depths (Join l) ks h = h
after_ascends depths (Read l) ks h = h
after_ascends depths (Write l) ks h = h

pub step_ascends : (depths : ℕ → ℕ) (r : Option Event) (t : ℕ) (ks : List ℕ) → Ascends ks → Ascends (held_step depths r t ks)
step_ascends depths None t ks h = h
step_ascends depths (Some x) t ks h = go (x.thread == t)
  where
    go : (b : Bool) → Ascends (cond b (held_after depths x.op ks) ks)
    go true = after_ascends depths x.op ks h
    go false = h

pub ascends_held : (s : Trace) (p t : ℕ) → Ascends (held_set s p t)
ascends_held s zero t = tt
ascends_held s (suc p) t = step_ascends (depth s p t) (slice_get s p) t (held_set s p t) (ascends_held s p t)

pub increasing_from : (xs : List ℕ) → Ascends xs → IsStrictlyIncreasing xs
increasing_from [] h k l = absurd (omega arith)
increasing_from (x ∷ []) h k l = absurd (omega arith)
increasing_from (x ∷ y ∷ ys) h zero l = h.0
increasing_from (x ∷ y ∷ ys) h (suc k) l =
    let e : suc k + 1 ≡ suc (k + 1) = omega arith in
    rw e (increasing_from (y ∷ ys) h.1 k (omega arith))

pub held_ascends : (s : Trace) (p t : ℕ) → IsStrictlyIncreasing (held_set s p t)
held_ascends s p t = increasing_from (held_set s p t) (ascends_held s p t)
