-- Definitions at a place depend only on the events up to it.
use Rattle.std.proofs.Common.{◌≡◌, ℕ, zero, suc, ◌<◌, Bool, false, cond, ◌==◌, ◌&&◌, List, slice_get, Option, Some, None, refl, ap, ◌∙◌, arith}
use Rattle.std.specs.Option.{option_map_or, option_and_then}
use Rattle.trace_model.specs.declared.traces.event.Event.{Event}
use Rattle.trace_model.specs.declared.traces.event.Op.{Op}
use Rattle.trace_model.specs.declared.traces.event.Op.TheVariants.{Fork, Join, Acquire, Release, Read, Write}
use Rattle.trace_model.specs.Theory.Trace.{Trace, op_eq, does, last_place}
use Rattle.trace_model.specs.Theory.Held.{depth, begins_on, held_after, held_step, held_set}
use Rattle.trace_model.specs.Theory.Lookups.{writer_of, writer}

-- the two traces have the same events below n
abbrev pub Agree : ℕ → Trace → Trace → Type 0
Agree n s r = (p : ℕ) → p < n → slice_get s p ≡ slice_get r p

pub depth-agree : (s r : Trace) (n t l : ℕ) → Agree n s r → depth s n t l ≡ depth r n t l
depth-agree s r zero t l h = refl
depth-agree s r (suc n) t l h =
    rw (h n (omega arith), depth-agree s r n t l (λ p k. h p (omega arith))) refl

held_after-agree : (f g : ℕ → ℕ) (o : Op) (ks : List ℕ) → ((l : ℕ) → f l ≡ g l) → held_after f o ks ≡ held_after g o ks
held_after-agree f g (Release l) ks h = rw (h l) refl
held_after-agree f g (Acquire l) ks h = refl
held_after-agree f g (Fork l) ks h = refl
held_after-agree f g (Join l) ks h = refl
held_after-agree f g (Read l) ks h = refl
held_after-agree f g (Write l) ks h = refl

pub held_step-agree : (f g : ℕ → ℕ) (o : Option Event) (t : ℕ) (ks : List ℕ) → ((l : ℕ) → f l ≡ g l) → held_step f o t ks ≡ held_step g o t ks
held_step-agree f g None t ks h = refl
held_step-agree f g (Some e) t ks h = ap (λ xs. cond (e.thread == t) xs ks) (held_after-agree f g e.op ks h)

pub held-agree : (s r : Trace) (n t : ℕ) → Agree n s r → held_set s n t ≡ held_set r n t
held-agree s r zero t h = refl
held-agree s r (suc n) t h =
    let before = λ (p : ℕ) (l : p < n). h p (omega arith) in
    ap (λ o. held_step (depth s n t) o t (held_set s n t)) (h n (omega arith))
    ∙ ap (held_step (depth s n t) (slice_get r n) t) (held-agree s r n t before)
    ∙ held_step-agree (depth s n t) (depth r n t) (slice_get r n) t (held_set r n t) (λ l. depth-agree s r n t l before)

pub begins_on-agree : (s r : Trace) (l p : ℕ) → Agree (suc p) s r → begins_on s l p ≡ begins_on r l p
begins_on-agree s r l p h = ap (λ o. option_map_or (λ e. op_eq e.op (Acquire l) && (depth s p e.thread l == 0)) o false) (h p (omega arith)) ∙ go (slice_get r p)
  where
    go : (o : Option Event) → option_map_or (λ e. op_eq e.op (Acquire l) && (depth s p e.thread l == 0)) o false
        ≡ option_map_or (λ e. op_eq e.op (Acquire l) && (depth r p e.thread l == 0)) o false
    go None = refl
    go (Some e) = ap (λ n. op_eq e.op (Acquire l) && (n == 0)) (depth-agree s r p e.thread l (λ q k. h q (omega arith)))

pub last_place-agree : (f g : ℕ → Bool) (n : ℕ) → ((p : ℕ) → p < n → f p ≡ g p) → last_place f n ≡ last_place g n
last_place-agree f g zero h = refl
last_place-agree f g (suc n) h =
    rw (h n (omega arith), last_place-agree f g n (λ p l. h p (omega arith))) refl

pub does-agree : (s r : Trace) (o : Op) (p : ℕ) → slice_get s p ≡ slice_get r p → does s o p ≡ does r o p
does-agree s r o p h = ap (λ z. option_map_or (λ e. op_eq e.op o) z false) h

pub writer_of-agree : (s r : Trace) (q : ℕ) (o : Op) → Agree q s r → writer_of s q o ≡ writer_of r q o
writer_of-agree s r q (Read v) h = last_place-agree (does s (Write v)) (does r (Write v)) q (λ p l. does-agree s r (Write v) p (h p l))
writer_of-agree s r q (Fork v) h = refl
writer_of-agree s r q (Join v) h = refl
writer_of-agree s r q (Acquire v) h = refl
writer_of-agree s r q (Release v) h = refl
writer_of-agree s r q (Write v) h = refl

-- the writer of a read depends on the trace up to the read alone
pub writer-agree : (s r : Trace) (q : ℕ) → Agree (suc q) s r → writer s q ≡ writer r q
writer-agree s r q h = rw (h q (omega arith)) (go (slice_get r q))
  where
    go : (o : Option Event) → option_and_then (λ e. writer_of s q e.op) o ≡ option_and_then (λ e. writer_of r q e.op) o
    go None = refl
    go (Some e) = writer_of-agree s r q e.op (λ p l. h p (omega arith))
