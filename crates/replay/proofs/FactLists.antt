-- What the passes over the trace keep, and what the tests use of it.
use Rattle.std.proofs.Common.{◌≡◌, ℕ, zero, suc, ◌+◌, ◌<◌, Bool, true, false, not, cond, ◌==◌, List, ◌∷◌, [], ◌++◌, length, slice_get, Option, Some, None, refl, sym, ap, subst, ◌∙◌, inl, inr, add-one, arith}
use Rattle.std.specs.Option.{option_and_then, option_map_or}
use Rattle.std.specs.List.{Contains}
use Rattle.std.proofs.lemmas.Bool.{cases_lt, eqb-true, eq-eqb, false≢true}
use Rattle.trace_model.specs.declared.traces.event.Event.{Event}
use Rattle.trace_model.specs.declared.traces.event.Op.{Op}
use Rattle.trace_model.specs.declared.traces.event.Op.TheVariants.{Fork, Read, Write}
use Rattle.trace_model.specs.Theory.Trace.{Trace, event, OfThread, does, last_place}
use Rattle.trace_model.specs.Theory.Lookups.{writer_of, writer}
use Rattle.trace_model.specs.Theory.Walk.{Walks}
use Rattle.trace_model.proofs.Lists.{at_index, get-push_kept, get-push_last, length-push}
use Rattle.trace_model.proofs.Theory.Places.{last_place_some, last_place_none}
use Rattle.replay.specs.Facts.{is_of_thread, previous, each, of_read}
use Rattle.replay.specs.Walking.{entry_after}
use Rattle.replay.specs.Tests.{MissesPlace, MissesEarlier}
use Rattle.replay.proofs.Lists.{one_thread}
use Rattle.replay.proofs.LastPlaces.{IsPrevious, missed_by_previous}

-- An event for places past the end, which no proof reads.
abbrev pub no_event : Event
no_event = record { thread = 0; op = Fork 0 }

pub length-each : {X : Type 0} (f : ℕ → X) (n : ℕ) → length (each f n) ≡ n
length-each f zero = refl
length-each f (suc n) = length-push (each f n) (f n) ∙ ap suc (length-each f n)

-- So a list that is built so far has this length.
pub has_each : {X : Type 0} (f : ℕ → X) (n : ℕ) (xs : List X) → xs ≡ each f n → length xs ≡ n
has_each f n xs is = ap length is ∙ length-each f n

pub get-each : {X : Type 0} (f : ℕ → X) (n q : ℕ) → q < n → slice_get (each f n) q ≡ Some (f q)
get-each f zero q l = absurd (omega arith)
get-each f (suc n) q l =
    let kept : q < n → slice_get (each f n) q ≡ Some (f q) = get-each f n q in
    elim (cases_lt q n) [
      | inl a ↦ get-push_kept (each f n) (f n) q (f q) (kept a)
      | inr a ↦
          let same : n ≡ q = omega arith in
          subst (λ k. slice_get (each f n ++ f n ∷ []) k ≡ Some (f k)) same
          (subst (λ k. slice_get (each f n ++ f n ∷ []) k ≡ Some (f n)) (length-each f n) (get-push_last (each f n) (f n)))
    ]

-- ---- one more place of the trace

pub each_more : {X : Type 0} (f : ℕ → X) (n : ℕ) (xs : List X) (x : X) → xs ≡ each f n → x ≡ f n → xs ++ x ∷ [] ≡ each f (n + 1)
each_more f n xs x e h = rw (add-one, e, h) refl

pub thread_more : (s : Trace) (n t : ℕ) (e : Event) (old new : Option ℕ) → slice_get s n ≡ Some e → old ≡ last_place (is_of_thread s t) n →
    new ≡ cond (e.thread == t) (Some n) old → new ≡ last_place (is_of_thread s t) (n + 1)
thread_more s n t e old new at o h = h ∙ rw (add-one, at, o) refl

pub does_more : (s : Trace) (kind : ℕ → Op) (n key : ℕ) (e : Event) (old new : Option ℕ) → slice_get s n ≡ Some e →
    old ≡ last_place (does s (kind key)) n → new ≡ entry_after kind e.op n key old → new ≡ last_place (does s (kind key)) (n + 1)
does_more s kind n key e old new at o h = h ∙ rw (add-one, at, o) refl

pub previous_is : (s : Trace) (n : ℕ) (e : Event) → slice_get s n ≡ Some e → previous s n ≡ last_place (is_of_thread s e.thread) n
previous_is s n e at = ap (option_and_then (λ x. last_place (is_of_thread s x.thread) n)) at

pub writer_seen : (s : Trace) (n : ℕ) (e : Event) (table : ℕ → Option ℕ) → slice_get s n ≡ Some e →
    ((v : ℕ) → table v ≡ last_place (does s (Write v)) n) → of_read table e.op ≡ writer s n
writer_seen s n e table at h = go e.op ∙ sym (ap (option_and_then (λ x. writer_of s n x.op)) at)
  where
    go : (o : Op) → of_read table o ≡ writer_of s n o
    go (Read v) = h v
    go _ = refl

-- ---- what the tests take

of_thread : (s : Trace) (t p : ℕ) (o : Option Event) → slice_get s p ≡ o → option_map_or (λ e. e.thread == t) o false ≡ true → OfThread s p t
of_thread s t p None at h = absurd (false≢true h)
of_thread s t p (Some e) at h = (e.op, at ∙ ap (λ u. Some (event u e.op)) (eqb-true e.thread t h))

is_of_from : (s : Trace) (t p : ℕ) → OfThread s p t → is_of_thread s t p ≡ true
is_of_from s t p (o, h) = rw h (eq-eqb t t refl)

is_previous : (s : Trace) (t n p : ℕ) → last_place (is_of_thread s t) n ≡ Some p → IsPrevious s t n p
is_previous s t n p e =
    let k = last_place_some (is_of_thread s t) n p e in
    (of_thread s t p (slice_get s p) refl k.1, k.0, λ u a b o. k.2 u a b (is_of_from s t u o))

-- A place of the thread below `n` is missing if and only if the last one is.
pub missed_by_last : (s : Trace) (passed : List ℕ) → Walks s passed → (t n p : ℕ) (b : Bool) → last_place (is_of_thread s t) n ≡ Some p →
    (b ≡ true → Contains passed p) × (Contains passed p → b ≡ true) →
    (not b ≡ true → MissesPlace s passed t n) × (MissesPlace s passed t n → not b ≡ true)
missed_by_last s passed w t n p b e h = missed_by_previous s passed w t n p b (is_previous s t n p e) h

pub none_missed : (s : Trace) (passed : List ℕ) (t n : ℕ) → last_place (is_of_thread s t) n ≡ None → MissesPlace s passed t n → ⊥
none_missed s passed t n e (u, l, o, m) = last_place_none (is_of_thread s t) n e u l (is_of_from s t u o)

earlier_place : (s : Trace) (passed : List ℕ) (q : ℕ) (e : Event) → slice_get s q ≡ Some e →
    (MissesPlace s passed e.thread q → MissesEarlier s passed q) × (MissesEarlier s passed q → MissesPlace s passed e.thread q)
earlier_place s passed q e at = (
  λ (u, l, o, n). (u, (e.thread, o, (e.op, at), l), n),
  λ (u, (t, a, b, l), n). (u, l, subst (OfThread s u) (sym (one_thread s q e t at b)) a, n),
)

pub missed_earlier : (s : Trace) (passed : List ℕ) → Walks s passed → (q p : ℕ) (b : Bool) → q < length s → previous s q ≡ Some p →
    (b ≡ true → Contains passed p) × (Contains passed p → b ≡ true) →
    (not b ≡ true → MissesEarlier s passed q) × (MissesEarlier s passed q → not b ≡ true)
missed_earlier s passed w q p b within is h =
    let (e, at) = at_index s q within in
    let m = missed_by_last s passed w e.thread q p b (sym (previous_is s q e at) ∙ is) h in
    let x = earlier_place s passed q e at in
    (λ t. x.0 (m.0 t), λ t. m.1 (x.1 t))

pub none_missed_earlier : (s : Trace) (passed : List ℕ) (q : ℕ) → q < length s → previous s q ≡ None → MissesEarlier s passed q → ⊥
none_missed_earlier s passed q within is m =
    let (e, at) = at_index s q within in
    none_missed s passed e.thread q (sym (previous_is s q e at) ∙ is) ((earlier_place s passed q e at).1 m)

pub previous_within : (s : Trace) (q p : ℕ) → q < length s → previous s q ≡ Some p → p < length s
previous_within s q p within is =
    let (e, at) = at_index s q within in
    omega (arith, (last_place_some (is_of_thread s e.thread) q p (sym (previous_is s q e at) ∙ is)).0)
