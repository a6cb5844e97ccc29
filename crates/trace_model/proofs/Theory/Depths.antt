-- Limits of the number and depth of held locks.
use Rattle.std.proofs.Common.{◌≡◌, ℕ, zero, suc, ◌+◌, ◌-◌, ◌<◌, ◌≤◌, inl, inr, Bool, true, false, cond, not, ltb, leb, ◌==◌, ◌&&◌, List, [], ◌∷◌, ◌++◌, length, take, slice_get, Option, Some, None, refl, sym, ap, subst, ◌∙◌, arith}
use Rattle.std.proofs.lemmas.Bool.{eqb-true, eq-eqb, false≢true, or_cases, or_left, or_parts, ne_eqb, ltb-true}
use Rattle.std.proofs.lemmas.List.{length-take-le}
use Rattle.std.proofs.lemmas.List.Sums.{length-filter, count_by-le-length}
use Rattle.std.proofs.lemmas.Option.{slice_get_within}
use Rattle.std.specs.List.{count_by}
use Rattle.trace_model.specs.declared.traces.event.Event.{Event}
use Rattle.trace_model.specs.declared.traces.event.Op.{Op}
use Rattle.trace_model.specs.declared.traces.event.Op.TheVariants.{Fork, Join, Acquire, Release, Read, Write}
use Rattle.trace_model.specs.declared.limits.TheConstants.{MAX_EVENTS, MAX_HELD, MAX_DEPTH}
use Rattle.trace_model.specs.Theory.Trace.{Trace, event, At, op_eq}
use Rattle.trace_model.specs.Theory.Held.{depth, depth_after, depth_step, with_lock, without_lock, held_after, held_step, held_set, has}
use Rattle.trace_model.specs.Theory.Lawful.{held_by, op_refusal_of, IsWellFormed}
use Rattle.trace_model.specs.Theory.Holders.{is_acquire_by, is_release_by}
use Rattle.trace_model.proofs.Theory.Held.{held_from}
use Rattle.trace_model.proofs.Theory.HeldAscends.{Above, Ascends, above_lower, ascends_held}
use Rattle.trace_model.proofs.Theory.Prefix.{depth-agree, held-agree}
use Rattle.trace_model.proofs.Theory.Lawful.{passed}
use Rattle.trace_model.proofs.Theory.OneMore.{depth-push, well_formed-front, well_formed-last, lawful_op, lawful_acquire, lawful_release}
use Rattle.trace_model.proofs.Lists.{by_pushes, count-push, get-take}

pub length-with : (l : ℕ) (ks : List ℕ) → has l ks ≡ false → length (with_lock l ks) ≡ suc (length ks)
length-with l [] h = refl
length-with l (k ∷ ks) h = go (length-with l ks (or_parts (k == l) (has l ks) h).1) (ltb l k) (l == k) refl
  where
    go : length (with_lock l ks) ≡ suc (length ks) → (x y : Bool) → (l == k) ≡ y →
        length (cond x (l ∷ k ∷ ks) (cond y (k ∷ ks) (k ∷ with_lock l ks))) ≡ suc (suc (length ks))
    go more true y e = refl
    go more false true e = absurd (false≢true (sym h ∙ or_left (k == l) (has l ks) (eq-eqb k l (sym (eqb-true l k e)))))
    go more false false e = ap suc more

pub above_lacks : (l : ℕ) (ks : List ℕ) → Above l ks → Ascends ks → has l ks ≡ false
above_lacks l [] a h = refl
above_lacks l (k ∷ ks) a h = rw (ne_eqb k l (λ e. omega (arith, e, a)), above_lacks l ks (above_lower l k ks a h.0) h.1) refl

length-without_none : (l : ℕ) (ks : List ℕ) → has l ks ≡ false → length (without_lock l ks) ≡ length ks
length-without_none l [] h = refl
length-without_none l (k ∷ ks) h =
    let r = or_parts (k == l) (has l ks) h in
    rw r.0 (ap suc (length-without_none l ks r.1))

pub length-without : (l : ℕ) (ks : List ℕ) → Ascends ks → has l ks ≡ true → suc (length (without_lock l ks)) ≡ length ks
length-without l [] a h = absurd (false≢true h)
length-without l (k ∷ ks) a h = go (length-without l ks a.1) (k == l) refl h
  where
    go : (has l ks ≡ true → suc (length (without_lock l ks)) ≡ length ks) → (b : Bool) → (k == l) ≡ b → has l (k ∷ ks) ≡ true →
        suc (length (cond (not b) (k ∷ without_lock l ks) (without_lock l ks))) ≡ suc (length ks)
    go more true e h' = ap suc (length-without_none l ks (subst (λ x. has x ks ≡ false) (eqb-true k l e) (above_lacks k ks a.0 a.1)))
    go more false e h' = elim (or_cases (k == l) (has l ks) h') [
      | inl same ↦ absurd (false≢true (sym e ∙ same))
      | inr later ↦ ap suc (more later)
    ]

-- a lock that is in the list is not added twice
pub with-known : (l : ℕ) (ks : List ℕ) → Ascends ks → has l ks ≡ true → with_lock l ks ≡ ks
with-known l [] a h = absurd (false≢true h)
with-known l (k ∷ ks) a h = go (with-known l ks a.1) (ltb l k) refl (l == k) refl
  where
    go : (has l ks ≡ true → with_lock l ks ≡ ks) → (x : Bool) → ltb l k ≡ x → (y : Bool) → (l == k) ≡ y →
        cond x (l ∷ k ∷ ks) (cond y (k ∷ ks) (k ∷ with_lock l ks)) ≡ k ∷ ks
    go more true e y f = absurd (false≢true (sym (above_lacks l (k ∷ ks) (ltb-true l k e) a) ∙ h))
    go more false e true f = refl
    go more false e false f = elim (or_cases (k == l) (has l ks) h) [
      | inl same ↦ absurd (false≢true (sym f ∙ eq-eqb l k (sym (eqb-true k l same))))
      | inr later ↦ ap (λ xs. k ∷ xs) (more later)
    ]

-- ---- the limits of held locks

module _ (s : Trace) (w : IsWellFormed s) (t : ℕ) where
  -- the tests that the event at a place of the thread passed
  at_place : (p : ℕ) (o : Op) → At s p (event t o) → op_refusal_of (take p s) t o ≡ None
  at_place p o at = (passed s w p t o at).2

  whole : (p : ℕ) (e : Event) → At s p e → length (take p s) ≡ p
  whole p e at = let within = slice_get_within s p e at in length-take-le p s (omega arith)

  depth_there : (p l : ℕ) (e : Event) → At s p e → depth (take p s) (length (take p s)) t l ≡ depth s p t l
  depth_there p l e at = ap (λ n. depth (take p s) n t l) (whole p e at) ∙ depth-agree (take p s) s p t l (λ q k. get-take p s q k)

  held_there : (p : ℕ) (e : Event) → At s p e → held_set (take p s) (length (take p s)) t ≡ held_set s p t
  held_there p e at = ap (λ n. held_set (take p s) n t) (whole p e at) ∙ held-agree (take p s) s p t (λ q k. get-take p s q k)

  acquired : (p l : ℕ) → At s p (event t (Acquire l)) → length (held_set s p t) ≤ MAX_HELD → length (with_lock l (held_set s p t)) ≤ MAX_HELD
  acquired p l at le = go (has l (held_set s p t)) refl
    where
      e : Event
      e = event t (Acquire l)

      passed_it : (held_by (take p s) t l ≡ false → length (held_set (take p s) (length (take p s)) t) < MAX_HELD)
      passed_it = (lawful_acquire (take p s) t l (at_place p (Acquire l) at)).2

      new : has l (held_set s p t) ≡ false → held_by (take p s) t l ≡ false
      new h = ap (ltb 0) (depth_there p l e at) ∙ by (ltb 0 (depth s p t l)) refl
        where
          by : (b : Bool) → ltb 0 (depth s p t l) ≡ b → b ≡ false
          by true f = absurd (false≢true (sym h ∙ held_from s p t l (ltb-true 0 (depth s p t l) f)))
          by false f = refl

      go : (b : Bool) → has l (held_set s p t) ≡ b → length (with_lock l (held_set s p t)) ≤ MAX_HELD
      go true h = let same = with-known l (held_set s p t) (ascends_held s p t) h in omega (arith, ap length same)
      go false h =
          let few = passed_it (new h) in
          let there = ap length (held_there p e at) in
          omega (arith, length-with l (held_set s p t) h)

  held_op : (p : ℕ) (o : Op) → At s p (event t o) → length (held_set s p t) ≤ MAX_HELD → length (held_after (depth s p t) o (held_set s p t)) ≤ MAX_HELD
  held_op p (Acquire l) at le = acquired p l at le
  held_op p (Release l) at le = elim (leb (depth s p t l) 1) as (λ b. length (cond b (without_lock l (held_set s p t)) (held_set s p t)) ≤ MAX_HELD) [
    | true ↦ omega (arith, length-filter (λ k. not (k == l)) (held_set s p t), count_by-le-length (λ k. not (k == l)) (held_set s p t))
    | false ↦ le
  ]
  held_op p (Fork c) at le = le
  held_op p (Join c) at le = le
  held_op p (Read v) at le = le
  held_op p (Write v) at le = le

  -- a thread holds at most MAX_HELD locks at any place
  pub held_shallow : (p : ℕ) → length (held_set s p t) ≤ MAX_HELD
  held_shallow zero = omega arith
  held_shallow (suc p) = go (held_shallow p) (slice_get s p) refl
    where
      step : (x : Event) → slice_get s p ≡ Some x → length (held_set s p t) ≤ MAX_HELD → (b : Bool) → (x.thread == t) ≡ b →
          length (cond b (held_after (depth s p t) x.op (held_set s p t)) (held_set s p t)) ≤ MAX_HELD
      step x e le true same = held_op p x.op (e ∙ ap (λ u. Some (event u x.op)) (eqb-true x.thread t same)) le
      step x e le false same = le

      go : length (held_set s p t) ≤ MAX_HELD → (o : Option Event) → slice_get s p ≡ o → length (held_step (depth s p t) o t (held_set s p t)) ≤ MAX_HELD
      go le None e = le
      go le (Some x) e = step x e le (x.thread == t) refl

  depth_op : (p l : ℕ) (o : Op) → At s p (event t o) → depth s p t l ≤ MAX_DEPTH → depth_after o l (depth s p t l) ≤ MAX_DEPTH
  depth_op p l (Acquire m) at le = go (m == l) refl
    where
      go : (b : Bool) → (m == l) ≡ b → cond b (suc (depth s p t l)) (depth s p t l) ≤ MAX_DEPTH
      go true e =
          let room = (lawful_acquire (take p s) t m (at_place p (Acquire m) at)).0 in
          let there = depth_there p m (event t (Acquire m)) at in
          let same = ap (depth s p t) (eqb-true m l e) in
          omega arith
      go false e = le
  depth_op p l (Release m) at le = elim (m == l) as (λ b. cond b (depth s p t l - 1) (depth s p t l) ≤ MAX_DEPTH) [ true ↦ omega arith | false ↦ le ]
  depth_op p l (Fork c) at le = le
  depth_op p l (Join c) at le = le
  depth_op p l (Read v) at le = le
  depth_op p l (Write v) at le = le

  -- and none deeper than MAX_DEPTH
  pub depth_shallow : (p l : ℕ) → depth s p t l ≤ MAX_DEPTH
  depth_shallow zero l = omega arith
  depth_shallow (suc p) l = go (depth_shallow p l) (slice_get s p) refl
    where
      step : (x : Event) → slice_get s p ≡ Some x → depth s p t l ≤ MAX_DEPTH → (b : Bool) → (x.thread == t) ≡ b →
          cond b (depth_after x.op l (depth s p t l)) (depth s p t l) ≤ MAX_DEPTH
      step x e le true same = depth_op p l x.op (e ∙ ap (λ u. Some (event u x.op)) (eqb-true x.thread t same)) le
      step x e le false same = le

      go : depth s p t l ≤ MAX_DEPTH → (o : Option Event) → slice_get s p ≡ o → depth_step o t l (depth s p t l) ≤ MAX_DEPTH
      go le None e = le
      go le (Some x) e = step x e le (x.thread == t) refl

-- ---- the depth by counting

op_count : (o : Op) (l n a r : ℕ) → (o ≡ Release l → 0 < n) → a ≡ r + n →
    a + cond (op_eq o (Acquire l)) 1 0 ≡ (r + cond (op_eq o (Release l)) 1 0) + depth_after o l n
op_count (Acquire m) l n a r mine e = elim (m == l) as (λ b. a + cond b 1 0 ≡ (r + 0) + cond b (suc n) n) [ true ↦ omega arith | false ↦ omega arith ]
op_count (Release m) l n a r mine e = go (m == l) refl
  where
    go : (b : Bool) → (m == l) ≡ b → a + 0 ≡ (r + cond b 1 0) + cond b (n - 1) n
    go true f = omega (arith, mine (ap Release (eqb-true m l f)))
    go false f = omega arith
op_count (Fork c) l n a r mine e = omega arith
op_count (Join c) l n a r mine e = omega arith
op_count (Read v) l n a r mine e = omega arith
op_count (Write v) l n a r mine e = omega arith

event_count : (b : Bool) (o : Op) (l n a r : ℕ) → (b ≡ true → o ≡ Release l → 0 < n) → a ≡ r + n →
    a + cond (b && op_eq o (Acquire l)) 1 0 ≡ (r + cond (b && op_eq o (Release l)) 1 0) + cond b (depth_after o l n) n
event_count true o l n a r mine e = op_count o l n a r (mine refl) e
event_count false o l n a r mine e = omega arith

-- the depth of a lock is the number of acquires less the number of releases
pub depth_count : (s : Trace) → IsWellFormed s → (t l : ℕ) →
    count_by (is_acquire_by t l) s ≡ count_by (is_release_by t l) s + depth s (length s) t l
depth_count = by_pushes (λ s. IsWellFormed s → (t l : ℕ) → count_by (is_acquire_by t l) s ≡ count_by (is_release_by t l) s + depth s (length s) t l)
    (λ w t l. refl)
    (λ s e known w t l.
    let lawful = lawful_op MAX_EVENTS s e (well_formed-last s e w) in
    let mine = λ (b : (e.thread == t) ≡ true) (r : e.op ≡ Release l).
    lawful_release s t l (subst (λ u. op_refusal_of s u (Release l) ≡ None) (eqb-true e.thread t b) (subst (λ o. op_refusal_of s e.thread o ≡ None) r lawful)) in
    count-push (is_acquire_by t l) s e
    ∙ event_count (e.thread == t) e.op l (depth s (length s) t l) _ _ mine (known (well_formed-front s e w) t l)
    ∙ ap (λ n. n + depth_step (Some e) t l (depth s (length s) t l)) (sym (count-push (is_release_by t l) s e))
    ∙ ap (λ n. count_by (is_release_by t l) (s ++ e ∷ []) + n) (sym (depth-push s e t l)))
