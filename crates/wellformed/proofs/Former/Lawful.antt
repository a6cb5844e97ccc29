-- A well-formed flat trace is well formed in the definition without inner acquires.
use Rattle.std.proofs.Common.{◌≡◌, ℕ, ◌<◌, false, not, ltb, leb, ◌==◌, ◌&&◌, length, take, Some, None, refl, ap, ◌∙◌}
use Rattle.std.proofs.lemmas.Bool.{lt-leb, lt-ltb, ltb-true}
use Rattle.std.proofs.lemmas.Option.{slice_get_within}
use Rattle.std.specs.List.{list_any}
use Rattle.trace_model.specs.declared.traces.event.Op.{Op}
use Rattle.trace_model.specs.declared.traces.event.Op.TheVariants.{Fork, Join, Acquire, Release}
use Rattle.trace_model.specs.declared.refusal.Refusal.TheVariants.{Full, Unforked, Ended}
use Rattle.trace_model.specs.declared.limits.TheConstants.{MAX_EVENTS, MAX_HELD}
use Rattle.trace_model.specs.Theory.Trace.{Trace, event, occurs}
use Rattle.trace_model.specs.Theory.Held.{depth, has, held_set}
use Rattle.trace_model.specs.Theory.Lawful.{held_by, held_by_other, op_refusal_of, IsWellFormed}
use Rattle.trace_model.proofs.Theory.Held.{held_from, held_so}
use Rattle.trace_model.proofs.Theory.Lawful.{passes}
use Rattle.trace_model.proofs.Lists.{same_bool}
use Rattle.trace_model.proofs.Theory.OneMore.{lawful_acquire, lawful_release}
use Rattle.trace_model.proofs.Theory.Sections.{depth-take}
use Rattle.wellformed.specs.Flat.{IsFlat}
use Rattle.wellformed.specs.Former.Held as former_held
use Rattle.wellformed.specs.Former.Lawful as former
use Rattle.wellformed.proofs.Taken.{flat_below, flat_take}
use Rattle.wellformed.proofs.Former.Held.{held_is}

-- one more event after a flat trace
module _ (s : Trace) (flat : IsFlat s) (t : ℕ) where
  by_is : (u l : ℕ) → former.former_held_by s u l ≡ held_by s u l
  by_is u l =
      ap (has l) (held_is s flat (length s) u)
      ∙ same_bool (has l (held_set s (length s) u)) (held_by s u l)
      (λ h. lt-ltb 0 (depth s (length s) u l) (held_so s (length s) u l h))
      (λ h. held_from s (length s) u l (ltb-true 0 (depth s (length s) u l) h))

  by_other_is : (l : ℕ) → former.former_held_by_other s t l ≡ held_by_other s t l
  by_other_is l = ap (λ f. list_any f s) (λ i. λ e. not (e.thread == t) && by_is e.thread l i)

  few : (l : ℕ) → length (held_set s (length s) t) < MAX_HELD → leb MAX_HELD (length (former_held.former_held s (length s) t)) ≡ false
  few l h = ap (λ ks. leb MAX_HELD (length ks)) (held_is s flat (length s) t) ∙ lt-leb MAX_HELD (length (held_set s (length s) t)) h

  pub op_lawful : (op : Op) → ((l : ℕ) → op ≡ Acquire l → depth s (length s) t l ≡ 0) → op_refusal_of s t op ≡ None → former.former_op_refusal_of s t op ≡ None
  op_lawful (Acquire l) outermost h =
      let parts = lawful_acquire s t l h in
      let free : held_by s t l ≡ false = ap (ltb 0) (outermost l refl) in
      rw (by_is t l ∙ free, by_other_is l ∙ parts.1, few l (parts.2 free)) refl
  op_lawful (Release l) outermost h = rw (by_is t l ∙ lt-ltb 0 (depth s (length s) t l) (lawful_release s t l h)) refl
  op_lawful _ outermost h = h

pub was_well_formed : (s : Trace) → IsWellFormed s → IsFlat s → former.IsFormerWellFormed s
was_well_formed s w flat p e at =
    let r = take p s in
    let within = slice_get_within s p e at in
    let a = passes (leb MAX_EVENTS (length r)) Full _ (w p e at) in
    let b = passes (not (e.thread == 0) && not (occurs r (Fork e.thread))) Unforked _ a.1 in
    let d = passes (occurs r (Join e.thread)) Ended _ b.1 in
    let outermost = λ (l : ℕ) (is : e.op ≡ Acquire l). depth-take s p e.thread l within ∙ flat p e.thread l (at ∙ ap (λ o. Some (event e.thread o)) is) in
    rw (a.0, b.0, d.0) (op_lawful r (flat_take s p (flat_below s p flat)) e.thread e.op outermost d.1)
