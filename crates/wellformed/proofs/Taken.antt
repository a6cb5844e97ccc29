-- In a flat trace, a lock is held exactly if its last event is an acquire.
use Rattle.std.proofs.Common.{◌≡◌, ℕ, zero, suc, ◌<◌, ◌≤◌, inl, inr, Bool, true, false, cond, ltb, [], ◌∷◌, ◌++◌, length, take, slice_get, Option, Some, None, refl, sym, ap, subst, ◌∙◌, arith}
use Rattle.std.proofs.lemmas.Bool.{false≢true, cases_lt, ltb-true, ltb-false, lt-ltb, le-leb}
use Rattle.std.proofs.lemmas.List.Sums.{fold-append}
use Rattle.std.proofs.lemmas.Option.{same_Some, slice_get_within}
use Rattle.trace_model.specs.declared.traces.event.Event.{Event}
use Rattle.trace_model.specs.declared.traces.event.Op.{Op}
use Rattle.trace_model.specs.declared.traces.event.Op.TheVariants.{Acquire, Release}
use Rattle.trace_model.specs.declared.limits.TheConstants.{MAX_EVENTS}
use Rattle.trace_model.specs.declared.traces.owner.Owner.{Owner}
use Rattle.trace_model.specs.Theory.Trace.{Trace, event, At, op_eq}
use Rattle.trace_model.specs.Theory.Held.{depth}
use Rattle.trace_model.specs.Theory.Holders.{owner_depth, owner, owner_after, owner_after_release}
use Rattle.trace_model.specs.Theory.Lawful.{op_refusal_of, IsWellFormed}
use Rattle.trace_model.proofs.Theory.Growing.{well_formed_take}
use Rattle.trace_model.proofs.Theory.Held.{DepthCases, depth_cases}
use Rattle.trace_model.proofs.Theory.Lawful.{passed}
use Rattle.trace_model.proofs.Lists.{by_pushes, get-push_kept, get-append, get-take, get-take_past}
use Rattle.trace_model.proofs.Theory.OneMore.{well_formed-front, well_formed-last, lawful_op}
use Rattle.trace_model.proofs.Theory.Owners.{owner-push}
use Rattle.trace_model.proofs.Theory.Places.{op_eq_same}
use Rattle.trace_model.proofs.Theory.Prefix.{depth-agree}
use Rattle.trace_model.proofs.Theory.Sections.{depth-take}
use Rattle.wellformed.specs.Flat.{acquires_taken, is_taken, taken_after, IsFlat}
use Rattle.trace_model.proofs.Theory.Owners.{acquired_owned, released_owned}

-- every acquire below n is outermost
abbrev pub IsFlatBelow : Trace → ℕ → Type 0
IsFlatBelow s n = (p t l : ℕ) → p < n → At s p (event t (Acquire l)) → depth s p t l ≡ 0

-- no lock is held deeper than once
pub flat_shallow : (s : Trace) (n : ℕ) → IsFlatBelow s n → (p t l : ℕ) → p ≤ n → depth s p t l ≤ 1
flat_shallow s n flat zero t l le = omega arith
flat_shallow s n flat (suc p) t l le = go (flat_shallow s n flat p t l (omega arith)) (depth_cases (slice_get s p) t l (depth s p t l))
  where
    go : depth s p t l ≤ 1 → DepthCases (slice_get s p) t l (depth s p t l) (depth s (suc p) t l) → depth s (suc p) t l ≤ 1
    go few (inl (at, m)) = let none = flat p t l (omega arith) at in omega (arith, m, none)
    go few (inr (inl (at, m))) = omega (arith, m)
    go few (inr (inr (a, b, m))) = omega (arith, m)

pub flat_whole : (s : Trace) → IsFlatBelow s (length s) → IsFlat s
flat_whole s flat p t l at = flat p t l (slice_get_within s p (event t (Acquire l)) at) at

pub flat_below : (s : Trace) (n : ℕ) → IsFlat s → IsFlatBelow s n
flat_below s n flat p t l below at = flat p t l at

-- a prefix of a flat trace is flat
pub flat_take : (s : Trace) (n : ℕ) → IsFlatBelow s n → IsFlat (take n s)
flat_take s n flat p t l at =
    let below = get-take_past n s p (event t (Acquire l)) at in
    depth-agree (take n s) s p t l (λ q k. get-take n s q (omega arith))
    ∙ flat p t l below (sym (get-take n s p below) ∙ at)

pub flat-front : (s : Trace) (e : Event) → IsFlat (s ++ e ∷ []) → IsFlat s
flat-front s e flat p t l at =
    let below = slice_get_within s p (event t (Acquire l)) at in
    sym (depth-agree (s ++ e ∷ []) s p t l (λ q k. get-append s (e ∷ []) q (omega arith)))
    ∙ flat p t l (get-push_kept s e p (event t (Acquire l)) at)

-- ---- the last event on a lock

pub taken-push : (s : Trace) (e : Event) (l : ℕ) → is_taken (s ++ e ∷ []) l ≡ taken_after l (is_taken s l) e
taken-push s e l = fold-append (taken_after l) false s (e ∷ [])

-- a lock at depth 1 is free after one release
once : (o : Option Owner) → owner_depth o ≤ 1 → owner_depth (owner_after_release o) ≡ 0
once None h = refl
once (Some x) h = rw (le-leb x.depth 1 h) refl

module _ (s : Trace) (w : IsWellFormed s) (flat : IsFlat s) (e : Event) (lawful : op_refusal_of s e.thread e.op ≡ None) (l : ℕ) where
  owned_once : e.op ≡ Release l → owner_depth (owner s l) ≤ 1
  owned_once is =
      let same = released_owned s w e.thread l (subst (λ o. op_refusal_of s e.thread o ≡ None) is lawful) in
      omega (arith, same, flat_shallow s (length s) (flat_below s (length s) flat) (length s) e.thread l (omega arith))

  taken_next : is_taken s l ≡ ltb 0 (owner_depth (owner s l)) → taken_after l (is_taken s l) e ≡ ltb 0 (owner_depth (owner_after l (owner s l) e))
  taken_next was = go (op_eq e.op (Acquire l)) (op_eq e.op (Release l)) refl
    where
      go : (a r : Bool) → op_eq e.op (Release l) ≡ r →
          cond a true (cond r false (is_taken s l))
          ≡ ltb 0 (owner_depth (cond a (Some (record { thread = e.thread; depth = suc (owner_depth (owner s l)) })) (cond r (owner_after_release (owner s l)) (owner s l))))
      go true r k = sym (lt-ltb 0 (suc (owner_depth (owner s l))) (omega arith))
      go false true k = rw (once (owner s l) (owned_once (op_eq_same e.op (Release l) k))) refl
      go false false k = was

-- in a flat trace a lock has an owner exactly if its last event is an acquire
pub taken-owned : (s : Trace) → IsWellFormed s → IsFlat s → (l : ℕ) → is_taken s l ≡ ltb 0 (owner_depth (owner s l))
taken-owned = by_pushes (λ s. IsWellFormed s → IsFlat s → (l : ℕ) → is_taken s l ≡ ltb 0 (owner_depth (owner s l)))
    (λ w flat l. refl)
    (λ s e known w flat l.
    let front = well_formed-front s e w in
    let flat-s = flat-front s e flat in
    taken-push s e l
    ∙ taken_next s front flat-s e (lawful_op MAX_EVENTS s e (well_formed-last s e w)) l (known front flat-s l)
    ∙ ap (λ o. ltb 0 (owner_depth o)) (sym (owner-push s e l)))

-- an acquire is inner exactly if the last event on its lock before it is an acquire
pub taken-depth : (s : Trace) → IsWellFormed s → (q t l : ℕ) → IsFlatBelow s q → At s q (event t (Acquire l)) →
    is_taken (take q s) l ≡ ltb 0 (depth s q t l)
taken-depth s w q t l flat at =
    let front = well_formed_take s q w in
    let same = acquired_owned (take q s) front t l (passed s w q t (Acquire l) at).2 in
    taken-owned (take q s) front (flat_take s q flat) l
    ∙ ap (ltb 0) (sym same ∙ depth-take s q t l (slice_get_within s q (event t (Acquire l)) at))

-- ---- one more event

module _ (s : Trace) (w : IsWellFormed s) (q : ℕ) (flat : IsFlatBelow s q) where
  -- the next event acquires a lock that its thread holds, so the trace is not flat
  pub not_flat : (t : ℕ) (o : Op) → At s q (event t o) → acquires_taken (take q s) o ≡ true → IsFlat s → ⊥
  not_flat t (Acquire l) at h whole =
      let deep = ltb-true 0 (depth s q t l) (sym (taken-depth s w q t l flat at) ∙ h) in omega (arith, deep, whole q t l at)
  not_flat t _ at h whole = false≢true h

  -- or it does not, so the longer prefix is flat
  pub flat_more : (e : Event) → At s q e → acquires_taken (take q s) e.op ≡ false → IsFlatBelow s (suc q)
  flat_more e at h p t l below acquires = elim (cases_lt p q) [
    | inl z ↦ flat p t l z acquires
    | inr z ↦
        let same : p ≡ q = omega arith in
        let here : At s q (event t (Acquire l)) = subst (λ x. At s x (event t (Acquire l))) same acquires in
        let is : e ≡ event t (Acquire l) = same_Some e (event t (Acquire l)) (sym at ∙ here) in
        let free : is_taken (take q s) l ≡ false = subst (λ (x : Event). acquires_taken (take q s) x.op ≡ false) is h in
        let none = ltb-false 0 (depth s q t l) (sym (taken-depth s w q t l flat here) ∙ free) in
        subst (λ x. depth s x t l ≡ 0) (sym same) (omega (arith, none))
  ]
