-- The writer and the release as greatest and least places.
use Rattle.std.proofs.Common.{◌≡◌, ℕ, suc, ◌-◌, ◌<◌, Bool, true, false, cond, ◌==◌, ◌&&◌, length, slice_get, Option, Some, None, refl, sym, ap, ◌∙◌, arith}
use Rattle.std.proofs.lemmas.Bool.{eqb-true, eq-eqb, false≢true, and_parts, and_from}
use Rattle.std.proofs.lemmas.Option.{none-some, slice_get_within}
use Rattle.std.specs.Option.{option_and_then, option_map_or}
use Rattle.trace_model.specs.declared.traces.event.Event.{Event}
use Rattle.trace_model.specs.declared.traces.event.Op.{Op}
use Rattle.trace_model.specs.declared.traces.event.Op.TheVariants.{Fork, Join, Acquire, Release, Read, Write}
use Rattle.trace_model.specs.Theory.Trace.{Trace, event, At, Does, op_eq, does, last_place, first_place}
use Rattle.trace_model.specs.Theory.Held.{depth, Begins, Ends, BeginsOn, begins_on, ends_of}
use Rattle.trace_model.specs.Theory.Lookups.{writer_of, writer, release_of, release, GreatestWrite, LeastRelease}
use Rattle.trace_model.proofs.Theory.Places.{op_eq_same, does_so, does_from, last_place_some, last_place_none, last_place_is, first_place_some, first_place_is}

pub writer_so : (s : Trace) (q w : ℕ) → writer s q ≡ Some w → (v : ℕ) × Does s q (Read v) × GreatestWrite s v q w
writer_so s q w h = go (slice_get s q) refl h
  where
    by_op : (t : ℕ) (o : Op) → At s q (event t o) → writer_of s q o ≡ Some w → (v : ℕ) × Does s q (Read v) × GreatestWrite s v q w
    by_op t (Read v) e k =
        let m = last_place_some (does s (Write v)) q w k in
        (v, (t, e), (m.0, does_so s (Write v) w m.1, λ u a b d. m.2 u a b (does_from s (Write v) u d)))
    by_op t (Fork v) e k = absurd (none-some w k)
    by_op t (Join v) e k = absurd (none-some w k)
    by_op t (Acquire v) e k = absurd (none-some w k)
    by_op t (Release v) e k = absurd (none-some w k)
    by_op t (Write v) e k = absurd (none-some w k)

    go : (o : Option Event) → slice_get s q ≡ o → option_and_then (λ e. writer_of s q e.op) o ≡ Some w →
        (v : ℕ) × Does s q (Read v) × GreatestWrite s v q w
    go None e k = absurd (none-some w k)
    go (Some x) e k = by_op x.thread x.op e k

pub no_writer_so : (s : Trace) (q v : ℕ) → Does s q (Read v) → writer s q ≡ None →
    (u : ℕ) → u < q → Does s u (Write v) → ⊥
no_writer_so s q v (t, h) none u below d =
    let k : last_place (does s (Write v)) q ≡ None = sym (ap (option_and_then (λ e. writer_of s q e.op)) h) ∙ none in
    last_place_none (does s (Write v)) q k u below (does_from s (Write v) u d)

pub writer_of_read : (s : Trace) (q v w : ℕ) → Does s q (Read v) → writer s q ≡ Some w → GreatestWrite s v q w
writer_of_read s q v w (t, h) some =
    let k : last_place (does s (Write v)) q ≡ Some w = sym (ap (option_and_then (λ e. writer_of s q e.op)) h) ∙ some in
    let m = last_place_some (does s (Write v)) q w k in
    (m.0, does_so s (Write v) w m.1, λ u a b d. m.2 u a b (does_from s (Write v) u d))

-- of a read, the writer is that place
pub writer_is : (s : Trace) (q v w : ℕ) → Does s q (Read v) → GreatestWrite s v q w → writer s q ≡ Some w
writer_is s q v w (t, h) (below, d, none) =
    rw h (last_place_is (does s (Write v)) q w
    (below, does_from s (Write v) w d, λ u a b k. none u a b (does_so s (Write v) u k)))

-- ---- releases

pub ends_so : (s : Trace) (t l p : ℕ) → ends_of s t l p ≡ true → Ends s p t l
ends_so s t l p h =
    let k = and_parts (option_map_or (λ e. (e.thread == t) && op_eq e.op (Release l)) (slice_get s p) false) (depth s p t l == 1) h in
    (go (slice_get s p) k.0, eqb-true (depth s p t l) 1 k.1)
  where
    go : (o : Option Event) → option_map_or (λ e. (e.thread == t) && op_eq e.op (Release l)) o false ≡ true → o ≡ Some (event t (Release l))
    go None k = absurd (false≢true k)
    go (Some x) k =
        let b = and_parts (x.thread == t) (op_eq x.op (Release l)) k in
        λ i. Some (event (eqb-true x.thread t b.0 i) (op_eq_same x.op (Release l) b.1 i))

pub ends_from : (s : Trace) (t l p : ℕ) → Ends s p t l → ends_of s t l p ≡ true
ends_from s t l p (a, b) =
    and_from (option_map_or (λ e. (e.thread == t) && op_eq e.op (Release l)) (slice_get s p) false) (depth s p t l == 1)
    (rw a (and_from (t == t) (l == l) (eq-eqb t t refl) (eq-eqb l l refl))) (eq-eqb (depth s p t l) 1 b)

pub begins_so : (s : Trace) (l p : ℕ) → begins_on s l p ≡ true → BeginsOn s p l
begins_so s l p h = go (slice_get s p) refl h
  where
    go : (o : Option Event) → slice_get s p ≡ o → option_map_or (λ e. op_eq e.op (Acquire l) && (depth s p e.thread l == 0)) o false ≡ true → BeginsOn s p l
    go None e k = absurd (false≢true k)
    go (Some x) e k =
        let b = and_parts (op_eq x.op (Acquire l)) (depth s p x.thread l == 0) k in
        (x.thread, (e ∙ ap (λ o. Some (event x.thread o)) (op_eq_same x.op (Acquire l) b.0), eqb-true (depth s p x.thread l) 0 b.1))

pub begins_from : (s : Trace) (l p : ℕ) → BeginsOn s p l → begins_on s l p ≡ true
begins_from s l p (t, (a, b)) = rw a (and_from (l == l) (depth s p t l == 0) (eq-eqb l l refl) (eq-eqb (depth s p t l) 0 b))

pub release_computes : (s : Trace) (p t l : ℕ) → Begins s p t l → release s p ≡ first_place (ends_of s t l) (suc p) (length s - suc p)
release_computes s p t l (a, b) = rw a (rw (eq-eqb (depth s p t l) 0 b) refl)

pub release_of_acquire : (s : Trace) (p t l r : ℕ) → Begins s p t l → release s p ≡ Some r → LeastRelease s t l p r
release_of_acquire s p t l r h some =
    let m = first_place_some (ends_of s t l) (suc p) (length s - suc p) r (sym (release_computes s p t l h) ∙ some) in
    (m.0, ends_so s t l r m.2, λ u a b d. m.3 u a b (ends_from s t l u d))

pub release_is : (s : Trace) (p t l r : ℕ) → Begins s p t l → LeastRelease s t l p r → release s p ≡ Some r
release_is s p t l r h (after, d, none) =
    let within = slice_get_within s r (event t (Release l)) d.0 in
    release_computes s p t l h
    ∙ first_place_is (ends_of s t l) (suc p) (length s - suc p) r (after, omega arith, ends_from s t l r d, λ u a b k. none u a b (ends_so s t l u k))

-- a place with a release begins a section
pub release_so : (s : Trace) (p r : ℕ) → release s p ≡ Some r → (t : ℕ) × (l : ℕ) × Begins s p t l × LeastRelease s t l p r
release_so s p r h = go (slice_get s p) refl h
  where
    begun : (t l : ℕ) → Begins s p t l → (t : ℕ) × (l : ℕ) × Begins s p t l × LeastRelease s t l p r
    begun t l b = (t, l, b, release_of_acquire s p t l r b h)

    opened : (t l : ℕ) → At s p (event t (Acquire l)) → (b : Bool) → (depth s p t l == 0) ≡ b →
        cond b (first_place (ends_of s t l) (suc p) (length s - suc p)) None ≡ Some r → (t : ℕ) × (l : ℕ) × Begins s p t l × LeastRelease s t l p r
    opened t l e true b k = begun t l (e, eqb-true (depth s p t l) 0 b)
    opened t l e false b k = absurd (none-some r k)

    by_op : (t : ℕ) (o : Op) → At s p (event t o) → release_of s p t o ≡ Some r → (t : ℕ) × (l : ℕ) × Begins s p t l × LeastRelease s t l p r
    by_op t (Acquire l) e k = opened t l e (depth s p t l == 0) refl k
    by_op t (Fork v) e k = absurd (none-some r k)
    by_op t (Join v) e k = absurd (none-some r k)
    by_op t (Read v) e k = absurd (none-some r k)
    by_op t (Release v) e k = absurd (none-some r k)
    by_op t (Write v) e k = absurd (none-some r k)

    go : (o : Option Event) → slice_get s p ≡ o → option_and_then (λ e. release_of s p e.thread e.op) o ≡ Some r →
        (t : ℕ) × (l : ℕ) × Begins s p t l × LeastRelease s t l p r
    go None e k = absurd (none-some r k)
    go (Some x) e k = by_op x.thread x.op e k
