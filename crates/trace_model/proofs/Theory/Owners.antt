-- In a well-formed trace a lock is held by its owner alone.
use Rattle.std.proofs.Common.{◌≡◌, ℕ, suc, ◌-◌, ◌<◌, Bool, true, false, cond, not, leb, ◌==◌, [], ◌∷◌, ◌++◌, length, Option, Some, None, refl, sym, ap, subst, ◌∙◌, arith}
use Rattle.std.proofs.lemmas.Bool.{eqb-true, eqb-false, eq-eqb, ne_eqb, false≢true, leb-true, leb-false, not_from_false, not-true}
use Rattle.std.proofs.lemmas.List.Sums.{fold-append}
use Rattle.std.proofs.lemmas.Option.{none-some, same_Some}
use Rattle.trace_model.specs.declared.traces.event.Event.{Event}
use Rattle.trace_model.specs.declared.traces.event.Op.{Op}
use Rattle.trace_model.specs.declared.traces.event.Op.TheVariants.{Fork, Join, Acquire, Release, Read, Write}
use Rattle.trace_model.specs.declared.traces.owner.Owner.{Owner}
use Rattle.trace_model.specs.declared.limits.TheConstants.{MAX_EVENTS}
use Rattle.trace_model.specs.Theory.Trace.{Trace, op_eq}
use Rattle.trace_model.specs.Theory.Held.{depth, depth_after}
use Rattle.trace_model.specs.Theory.Lawful.{held_by_other, op_refusal_of, IsWellFormed}
use Rattle.trace_model.specs.Theory.Holders.{owner, owner_after, owner_depth, owner_after_release, depth_by, is_other_owner}
use Rattle.trace_model.proofs.Theory.Sections.{other_so, other_from}
use Rattle.trace_model.proofs.Theory.OneMore.{depth-push, well_formed-front, well_formed-last, lawful_op, lawful_acquire, lawful_release}
use Rattle.trace_model.proofs.Lists.{by_pushes, same_bool}

pub owner-push : (s : Trace) (e : Event) (l : ℕ) → owner (s ++ e ∷ []) l ≡ owner_after l (owner s l) e
owner-push s e l = fold-append (owner_after l) None s (e ∷ [])

-- the owner of a lock has a depth above 0, and each thread holds the lock at the depth that the owner
-- says
pub record IsOwner (s : Trace) (l : ℕ) (o : Option Owner) : Type 0 where
  pub deep : (x : Owner) → o ≡ Some x → 0 < x.depth
  pub each : (t : ℕ) → depth s (length s) t l ≡ depth_by o t

-- an event on the lock
op_cases : (o : Op) (l n : ℕ) → op_eq o (Acquire l) ≡ false → op_eq o (Release l) ≡ false → depth_after o l n ≡ n
op_cases (Acquire m) l n a r = rw a refl
op_cases (Release m) l n a r = rw r refl
op_cases (Fork c) l n a r = refl
op_cases (Join c) l n a r = refl
op_cases (Read v) l n a r = refl
op_cases (Write v) l n a r = refl

taken : (o : Op) (l n : ℕ) → op_eq o (Acquire l) ≡ true → depth_after o l n ≡ suc n
taken (Acquire m) l n a = rw a refl
taken (Release m) l n a = absurd (false≢true a)
taken (Fork c) l n a = absurd (false≢true a)
taken (Join c) l n a = absurd (false≢true a)
taken (Read v) l n a = absurd (false≢true a)
taken (Write v) l n a = absurd (false≢true a)

given : (o : Op) (l n : ℕ) → op_eq o (Release l) ≡ true → depth_after o l n ≡ n - 1
given (Release m) l n a = rw a refl
given (Acquire m) l n a = absurd (false≢true a)
given (Fork c) l n a = absurd (false≢true a)
given (Join c) l n a = absurd (false≢true a)
given (Read v) l n a = absurd (false≢true a)
given (Write v) l n a = absurd (false≢true a)

acquires_so : (o : Op) (l : ℕ) → op_eq o (Acquire l) ≡ true → o ≡ Acquire l
acquires_so (Acquire m) l a = ap Acquire (eqb-true m l a)
acquires_so (Release m) l a = absurd (false≢true a)
acquires_so (Fork c) l a = absurd (false≢true a)
acquires_so (Join c) l a = absurd (false≢true a)
acquires_so (Read v) l a = absurd (false≢true a)
acquires_so (Write v) l a = absurd (false≢true a)

releases_so : (o : Op) (l : ℕ) → op_eq o (Release l) ≡ true → o ≡ Release l
releases_so (Release m) l a = ap Release (eqb-true m l a)
releases_so (Acquire m) l a = absurd (false≢true a)
releases_so (Fork c) l a = absurd (false≢true a)
releases_so (Join c) l a = absurd (false≢true a)
releases_so (Read v) l a = absurd (false≢true a)
releases_so (Write v) l a = absurd (false≢true a)

-- if no other thread holds the lock, then this thread holds it at the depth of its owner
alone : (o : Option Owner) (u : ℕ) → is_other_owner o u ≡ false → depth_by o u ≡ owner_depth o
alone None u h = refl
alone (Some x) u h = go (x.thread == u) h
  where
    go : (b : Bool) → not b ≡ false → cond b x.depth 0 ≡ x.depth
    go true e = refl
    go false e = absurd (false≢true (sym e))

-- another thread does not hold what this one alone holds
not_theirs : (o : Option Owner) (u t : ℕ) → is_other_owner o u ≡ false → (u == t) ≡ false → depth_by o t ≡ 0
not_theirs None u t h k = refl
not_theirs (Some x) u t h k = go (x.thread == u) refl h
  where
    go : (b : Bool) → (x.thread == u) ≡ b → not b ≡ false → depth_by (Some x) t ≡ 0
    go true e f = ap (λ y. cond (y == t) x.depth 0) (eqb-true x.thread u e) ∙ ap (λ b. cond b x.depth 0) k
    go false e f = absurd (false≢true (sym f))

released_by : (o : Option Owner) (t : ℕ) → depth_by (owner_after_release o) t ≡ depth_by o t - 1
released_by None t = refl
released_by (Some x) t = go (leb x.depth 1) refl
  where
    least : (b : Bool) → leb x.depth 1 ≡ true → 0 ≡ cond b x.depth 0 - 1
    least true e = omega (arith, leb-true x.depth 1 e)
    least false e = refl

    more : (b : Bool) → cond b (x.depth - 1) 0 ≡ cond b x.depth 0 - 1
    more true = refl
    more false = refl

    go : (c : Bool) → leb x.depth 1 ≡ c → depth_by (cond c None (Some (record { thread = x.thread; depth = x.depth - 1 }))) t ≡ cond (x.thread == t) x.depth 0 - 1
    go true e = least (x.thread == t) e
    go false e = more (x.thread == t)

still_deep : (o : Option Owner) → ((x : Owner) → o ≡ Some x → 0 < x.depth) → (y : Owner) → owner_after_release o ≡ Some y → 0 < y.depth
still_deep None d y e = absurd (none-some y e)
still_deep (Some x) d y e = go (leb x.depth 1) refl e
  where
    go : (c : Bool) → leb x.depth 1 ≡ c → cond c None (Some (record { thread = x.thread; depth = x.depth - 1 })) ≡ Some y → 0 < y.depth
    go true h f = absurd (none-some y f)
    go false h f = subst (λ (z : Owner). 0 < z.depth) (same_Some (record { thread = x.thread; depth = x.depth - 1 }) y f) (omega (arith, leb-false x.depth 1 h))

-- one more event that is lawful
module _ (s : Trace) (e : Event) (l : ℕ) (lawful : op_refusal_of s e.thread e.op ≡ None) (was : IsOwner s l (owner s l))
    (other : (t : ℕ) → held_by_other s t l ≡ is_other_owner (owner s l) t) where
  abbrev Next : Option Owner → Type 0
  Next o = ((x : Owner) → o ≡ Some x → 0 < x.depth)
      × ((t : ℕ) → cond (e.thread == t) (depth_after e.op l (depth s (length s) t l)) (depth s (length s) t l) ≡ depth_by o t)

  of_acquire : op_eq e.op (Acquire l) ≡ true → Next (Some (record { thread = e.thread; depth = suc (owner_depth (owner s l)) }))
  of_acquire a = (
    (λ x f. subst (λ (z : Owner). 0 < z.depth) (same_Some (record { thread = e.thread; depth = suc (owner_depth (owner s l)) }) x f) (omega arith)),
    λ t. go t (e.thread == t) refl,
  )
    where
      free : is_other_owner (owner s l) e.thread ≡ false
      free = sym (other e.thread) ∙ (lawful_acquire s e.thread l (subst (λ o. op_refusal_of s e.thread o ≡ None) (acquires_so e.op l a) lawful)).1

      go : (t : ℕ) (b : Bool) → (e.thread == t) ≡ b →
          cond b (depth_after e.op l (depth s (length s) t l)) (depth s (length s) t l) ≡ cond b (suc (owner_depth (owner s l))) 0
      go t true k =
          taken e.op l (depth s (length s) t l) a
          ∙ ap suc (was.each t ∙ ap (depth_by (owner s l)) (sym (eqb-true e.thread t k)) ∙ alone (owner s l) e.thread free)
      go t false k = was.each t ∙ not_theirs (owner s l) e.thread t free k

  of_release : op_eq e.op (Release l) ≡ true → Next (owner_after_release (owner s l))
  of_release r = (still_deep (owner s l) was.deep, λ t. go t (e.thread == t) refl ∙ sym (released_by (owner s l) t))
    where
      mine : 0 < depth_by (owner s l) e.thread
      mine = subst (λ n. 0 < n) (was.each e.thread) (lawful_release s e.thread l (subst (λ o. op_refusal_of s e.thread o ≡ None) (releases_so e.op l r) lawful))

      theirs : (o : Option Owner) → 0 < depth_by o e.thread → (t : ℕ) → (e.thread == t) ≡ false → depth_by o t ≡ 0
      theirs None m t k = refl
      theirs (Some x) m t k = by (x.thread == e.thread) refl m
        where
          by : (b : Bool) → (x.thread == e.thread) ≡ b → 0 < cond b x.depth 0 → depth_by (Some x) t ≡ 0
          by true f n = ap (λ y. cond (y == t) x.depth 0) (eqb-true x.thread e.thread f) ∙ ap (λ c. cond c x.depth 0) k
          by false f n = absurd (omega (arith, n))

      go : (t : ℕ) (b : Bool) → (e.thread == t) ≡ b →
          cond b (depth_after e.op l (depth s (length s) t l)) (depth s (length s) t l) ≡ depth_by (owner s l) t - 1
      go t true k = given e.op l (depth s (length s) t l) r ∙ ap (λ n. n - 1) (was.each t)
      go t false k = let none = theirs (owner s l) mine t k in was.each t ∙ omega (arith, none)

  of_other : op_eq e.op (Acquire l) ≡ false → op_eq e.op (Release l) ≡ false → Next (owner s l)
  of_other a r = (was.deep, λ t. go t (e.thread == t) ∙ was.each t)
    where
      go : (t : ℕ) (b : Bool) → cond b (depth_after e.op l (depth s (length s) t l)) (depth s (length s) t l) ≡ depth s (length s) t l
      go t true = op_cases e.op l (depth s (length s) t l) a r
      go t false = refl

  next_owner : Next (owner_after l (owner s l) e)
  next_owner = go (op_eq e.op (Acquire l)) refl (op_eq e.op (Release l)) refl
    where
      go : (a : Bool) → op_eq e.op (Acquire l) ≡ a → (r : Bool) → op_eq e.op (Release l) ≡ r →
          Next (cond a (Some (record { thread = e.thread; depth = suc (owner_depth (owner s l)) })) (cond r (owner_after_release (owner s l)) (owner s l)))
      go true f r g = of_acquire f
      go false f true g = of_release g
      go false f false g = of_other f g

-- another thread holds the lock exactly if another one is the owner
other_is : (s : Trace) (l : ℕ) → IsOwner s l (owner s l) → (t : ℕ) → held_by_other s t l ≡ is_other_owner (owner s l) t
other_is s l is t = same_bool _ _
    (λ h. let (u, apart, holds) = other_so s t l h in of_owner (owner s l) u (subst (λ n. 0 < n) (is.each u) holds) apart)
    (λ h. from_owner (owner s l) refl h)
  where
    of_owner : (o : Option Owner) (u : ℕ) → 0 < depth_by o u → (u ≡ t → ⊥) → is_other_owner o t ≡ true
    of_owner None u h apart = absurd (omega (arith, h))
    of_owner (Some x) u h apart = by (x.thread == u) refl h
      where
        by : (b : Bool) → (x.thread == u) ≡ b → 0 < cond b x.depth 0 → not (x.thread == t) ≡ true
        by true e k = not_from_false (x.thread == t) (ne_eqb x.thread t (λ same. apart (sym (eqb-true x.thread u e) ∙ same)))
        by false e k = absurd (omega (arith, k))

    from_owner : (o : Option Owner) → owner s l ≡ o → is_other_owner o t ≡ true → held_by_other s t l ≡ true
    from_owner None e h = absurd (false≢true h)
    from_owner (Some x) e h =
        let deep = is.deep x e in
        let holds : depth s (length s) x.thread l ≡ x.depth =
        is.each x.thread ∙ ap (λ o. depth_by o x.thread) e ∙ ap (λ b. cond b x.depth 0) (eq-eqb x.thread x.thread refl) in
        other_from s t l (x.thread, eqb-false x.thread t (not-true (x.thread == t) h), omega (arith, deep, holds))

pub owner_is : (s : Trace) → IsWellFormed s → (l : ℕ) → IsOwner s l (owner s l)
owner_is = by_pushes (λ s. IsWellFormed s → (l : ℕ) → IsOwner s l (owner s l))
    (λ w l. record { deep = λ x e. absurd (none-some x e); each = λ t. refl })
    (λ s e known w l.
    let was = known (well_formed-front s e w) l in
    let next = next_owner s e l (lawful_op MAX_EVENTS s e (well_formed-last s e w)) was (other_is s l was) in
    record {
      deep = λ x f. next.0 x (sym (owner-push s e l) ∙ f);
      each = λ t. depth-push s e t l ∙ next.1 t ∙ ap (λ o. depth_by o t) (sym (owner-push s e l));
    })

-- a thread holds a lock at the depth that its owner says
pub depth-owner : (s : Trace) → IsWellFormed s → (t l : ℕ) → depth s (length s) t l ≡ depth_by (owner s l) t
depth-owner s w t l = (owner_is s w l).each t

pub held_by_other-owner : (s : Trace) → IsWellFormed s → (t l : ℕ) → held_by_other s t l ≡ is_other_owner (owner s l) t
held_by_other-owner s w t l = other_is s l (owner_is s w l) t

-- ---- the lock of a lawful event has the depth of its owner

pub acquired_owned : (s : Trace) → IsWellFormed s → (t l : ℕ) → op_refusal_of s t (Acquire l) ≡ None → depth s (length s) t l ≡ owner_depth (owner s l)
acquired_owned s w t l h =
    depth-owner s w t l ∙ alone (owner s l) t (sym (held_by_other-owner s w t l) ∙ (lawful_acquire s t l h).1)

pub released_owned : (s : Trace) → IsWellFormed s → (t l : ℕ) → op_refusal_of s t (Release l) ≡ None → depth s (length s) t l ≡ owner_depth (owner s l)
released_owned s w t l h =
    let same = depth-owner s w t l in
    same ∙ alone (owner s l) t (not_other (owner s l) (subst (λ n. 0 < n) same (lawful_release s t l h)))
  where
    not_other : (o : Option Owner) → 0 < depth_by o t → is_other_owner o t ≡ false
    not_other None k = refl
    not_other (Some x) k = go (x.thread == t) k
      where
        go : (b : Bool) → 0 < cond b x.depth 0 → not b ≡ false
        go true m = refl
        go false m = absurd (omega (arith, m))
