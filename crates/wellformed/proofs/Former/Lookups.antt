-- In a flat trace, the release of an acquire is the first later release of its lock.
use Rattle.std.proofs.Common.{◌≡◌, ℕ, suc, ◌-◌, ◌<◌, inl, inr, true, length, slice_get, Option, Some, None, refl, sym, ap, subst, ◌∙◌, arith}
use Rattle.std.proofs.lemmas.Bool.{cases_eq, cases_lt}
use Rattle.std.proofs.lemmas.Option.{same_Some}
use Rattle.std.specs.Option.{option_and_then}
use Rattle.trace_model.specs.declared.traces.event.Event.{Event}
use Rattle.trace_model.specs.declared.traces.event.Op.{Op}
use Rattle.trace_model.specs.declared.traces.event.Op.TheVariants.{Acquire, Release}
use Rattle.trace_model.specs.Theory.Trace.{Trace, event, At, Does, does, first_place}
use Rattle.trace_model.specs.Theory.Held.{ends_of, Begins, Ends, InSection}
use Rattle.trace_model.specs.Theory.Lawful.{IsWellFormed}
use Rattle.trace_model.specs.Theory.Lookups.{release}
use Rattle.trace_model.proofs.Theory.Deadlock.{releaser_holds}
use Rattle.trace_model.proofs.Theory.Held.{section_holds, section_of}
use Rattle.trace_model.proofs.Theory.Lookups.{ends_from, ends_so, release_computes}
use Rattle.trace_model.proofs.Theory.Places.{does_from, does_so, first_place_is, first_place_none, first_place_some}
use Rattle.trace_model.proofs.Theory.Sections.{others_lack}
use Rattle.wellformed.specs.Flat.{IsFlat}
use Rattle.wellformed.specs.Former.Lookups as former
use Rattle.wellformed.proofs.Former.Held.{shallow}

module _ (s : Trace) (w : IsWellFormed s) (flat : IsFlat s) where
  -- a thread holds what it acquired until some thread releases it
  abbrev NoneBetween : ℕ → ℕ → ℕ → Type 0
  NoneBetween p r l = (x : ℕ) → p < x → x < r → Does s x (Release l) → ⊥

  -- at the next release of the lock, another thread is in no section on it
  not_other : (p r t u l : ℕ) → Begins s p t l → p < r → NoneBetween p r l → (u ≡ t → ⊥) → InSection s r u l → ⊥
  not_other p r t u l begins after none other (a, below, theirs, unended) = elim (cases_lt a p) [
    | inl z ↦ others_lack s w a p u t l (Acquire l) z theirs.0 begins.0 other
        (section_holds s p u l (a, z, theirs, λ x y k e. unended x y (omega arith) e))
    | inr z ↦ elim (cases_lt p a) [
      | inl y ↦ others_lack s w p a t u l (Acquire l) y begins.0 theirs.0 (λ same. other (sym same))
          (section_holds s a t l (p, y, begins, λ x k m e. none x k (omega arith) (t, e.0)))
      | inr y ↦
          let same : a ≡ p = omega arith in
          let both : Some (event u (Acquire l)) ≡ Some (event t (Acquire l)) =
          sym theirs.0 ∙ subst (λ x. slice_get s x ≡ Some (event t (Acquire l))) (sym same) begins.0 in
          other (ap (λ e. e.thread) (same_Some (event u (Acquire l)) (event t (Acquire l)) both))
    ]
  ]

  -- so that release is by the thread itself
  ends_there : (p r t l : ℕ) → Begins s p t l → p < r → NoneBetween p r l → Does s r (Release l) → Ends s r t l
  ends_there p r t l begins after none (u, at) = elim (cases_eq u t) [
    | inl same ↦
        let here : At s r (event t (Release l)) = subst (λ x. At s r (event x (Release l))) same at in
        (here, omega (arith, releaser_holds s w r t l here, shallow s flat r t l))
    | inr other ↦ absurd (not_other p r t u l begins after none other (section_of s r u l (releaser_holds s w r u l at)))
  ]

  first_is : (p t l n : ℕ) → Begins s p t l → first_place (does s (Release l)) (suc p) n ≡ first_place (ends_of s t l) (suc p) n
  first_is p t l n begins = go (first_place (does s (Release l)) (suc p) n) refl
    where
      releases : (x : ℕ) → ends_of s t l x ≡ true → does s (Release l) x ≡ true
      releases x h = does_from s (Release l) x (t, (ends_so s t l x h).0)

      none : first_place (does s (Release l)) (suc p) n ≡ None → (o : Option ℕ) → first_place (ends_of s t l) (suc p) n ≡ o → None ≡ o
      none e None f = refl
      none e (Some r) f =
          let k = first_place_some (ends_of s t l) (suc p) n r f in
          absurd (first_place_none (does s (Release l)) (suc p) n e r k.0 k.1 (releases r k.2))

      go : (o : Option ℕ) → first_place (does s (Release l)) (suc p) n ≡ o → o ≡ first_place (ends_of s t l) (suc p) n
      go None e = none e (first_place (ends_of s t l) (suc p) n) refl
      go (Some r) e =
          let k = first_place_some (does s (Release l)) (suc p) n r e in
          let between : NoneBetween p r l = λ x a b d. k.3 x a b (does_from s (Release l) x d) in
          let ends = ends_there p r t l begins k.0 between (does_so s (Release l) r k.2) in
          sym (first_place_is (ends_of s t l) (suc p) n r (k.0, k.1, ends_from s t l r ends, λ x a b d. k.3 x a b (releases x d)))

  op_release : (p t : ℕ) (op : Op) → At s p (event t op) → former.former_release_of s p op ≡ release s p
  op_release p t (Acquire l) at =
      let begins : Begins s p t l = (at, flat p t l at) in
      first_is p t l (length s - suc p) begins ∙ sym (release_computes s p t l begins)
  op_release p t _ at = rw at refl

  pub release_is : (p : ℕ) → former.former_release s p ≡ release s p
  release_is p = go (slice_get s p) refl
    where
      go : (o : Option Event) → slice_get s p ≡ o → option_and_then (λ e. former.former_release_of s p e.op) o ≡ release s p
      go None at = rw at refl
      go (Some x) at = op_release p x.thread x.op at
