-- The index of a place that gets an entry at the end.
use Rattle.std.proofs.Common.{◌≡◌, ℕ, ◌⊎◌, inl, inr, Bool, true, false, cond, ◌==◌, List, [], ◌∷◌, ◌++◌, length, slice_get, slice_set, Option, Some, refl, sym, ap, subst, ◌∙◌}
use Rattle.std.proofs.lemmas.Bool.{eqb-true, eq-eqb}
use Rattle.std.proofs.lemmas.Option.{same_Some, slice_get_within}
use Rattle.std.specs.List.{Contains}
use Rattle.trace_model.proofs.Lists.{get-append, get-push, get-set_same, get-set_other}
use Rattle.trace_model.proofs.Theory.Ascending.{contains_at}
use Rattle.explain.specs.declared.entry_table.EntryTable.{EntryTable}
use Rattle.explain.specs.Tables.{position_of_key}
use Rattle.explain.specs.EntryTable.{AreIndices, IsSlotTaken, slot_of}

eqb_false : (a b : ℕ) → (a ≡ b → ⊥) → (a == b) ≡ false
eqb_false a b n = go (a == b) refl
  where
    go : (c : Bool) → (a == b) ≡ c → (a == b) ≡ false
    go true e = absurd (n (eqb-true a b e))
    go false e = e

module _ (t : EntryTable) (places : List ℕ) (p n : ℕ) (last : n ≡ length places)
    (are : AreIndices t places) (fresh : Contains places p → ⊥) where
  more : (i q : ℕ) → slice_get places i ≡ Some q → slice_get (places ++ p ∷ []) i ≡ Some q
  more i q at = get-append places (p ∷ []) i (slice_get_within places i q at) ∙ at

  other : (i q : ℕ) → slice_get places i ≡ Some q → p ≡ q → ⊥
  other i q at same = fresh (contains_at places p i (at ∙ ap Some (sym same)))

  -- its slot is taken
  pub listed_beside : (others : List (ℕ × Option ℕ)) → IsSlotTaken t places p →
      ((q : ℕ) → position_of_key others q ≡ cond (p == q) (Some n) (position_of_key t.others q)) →
      AreIndices (record t { others = others }) (places ++ p ∷ [])
  listed_beside others taken put i q at = elim (get-push places p i q at) [
    | inl old ↦ elim (are i q old) [
      | inl slot ↦ inl slot
      | inr (is, beside) ↦ inr (
        λ j e. let (z, there, same) = is j e in (z, more j z there, same),
        put q ∙ ap (λ b. cond b (Some n) (position_of_key t.others q)) (eqb_false p q (other i q old)) ∙ beside,
      )
    ]
    | inr (here, same) ↦ inr (
      λ j e. let (z, there, slot) = taken j (subst (λ x. slice_get t.slots.items (slot_of x) ≡ Some j) (sym same) e) in
          (z, more j z there, slot ∙ ap slot_of same),
      put q ∙ ap (λ b. cond b (Some n) (position_of_key t.others q)) (eq-eqb p q same) ∙ ap Some (last ∙ sym here),
    )
  ]

  -- its slot is free
  module _ (slots : List ℕ) (is : slots ≡ slice_set t.slots.items (slot_of p) n) (i0 : ℕ)
      (was : slice_get t.slots.items (slot_of p) ≡ Some i0)
      (free : (q : ℕ) → slice_get places i0 ≡ Some q → slot_of q ≡ slot_of p → ⊥) where
    apart : (i q : ℕ) → slice_get places i ≡ Some q →
        (slice_get t.slots.items (slot_of q) ≡ Some i) ⊎ (IsSlotTaken t places q × (position_of_key t.others q ≡ Some i)) → slot_of p ≡ slot_of q → ⊥
    apart i q at (inl slot) same =
        let here : i0 ≡ i = same_Some i0 i (sym was ∙ ap (slice_get t.slots.items) same ∙ slot) in
        free q (ap (slice_get places) here ∙ at) (sym same)
    apart i q at (inr (taken, beside)) same =
        let (z, there, slot) = taken i0 (ap (slice_get t.slots.items) (sym same) ∙ was) in
        free z there (slot ∙ sym same)

    kept : (q : ℕ) → (slot_of p ≡ slot_of q → ⊥) → slice_get slots (slot_of q) ≡ slice_get t.slots.items (slot_of q)
    kept q differs = ap (λ xs. slice_get xs (slot_of q)) is ∙ get-set_other t.slots.items (slot_of p) (slot_of q) n differs

    pub listed_in_slot : (u : EntryTable) → u.slots.items ≡ slots → u.others ≡ t.others → AreIndices u (places ++ p ∷ [])
    listed_in_slot u in_u others i q at = elim (get-push places p i q at) [
      | inl old ↦
          let differs = apart i q old (are i q old) in
          elim (are i q old) [
            | inl slot ↦ inl (ap (λ xs. slice_get xs (slot_of q)) in_u ∙ kept q differs ∙ slot)
            | inr (taken, beside) ↦ inr (
              λ j e. let (z, there, same) = taken j (sym (kept q differs) ∙ ap (λ xs. slice_get xs (slot_of q)) (sym in_u) ∙ e) in (z, more j z there, same),
              ap (λ (v : List (ℕ × Option ℕ)). position_of_key v q) others ∙ beside,
            )
          ]
      | inr (here, same) ↦ inl (ap (λ xs. slice_get xs (slot_of q)) in_u ∙ ap (λ xs. slice_get xs (slot_of q)) is
          ∙ ap (λ x. slice_get (slice_set t.slots.items (slot_of p) n) (slot_of x)) (sym same)
          ∙ get-set_same t.slots.items (slot_of p) i0 n was ∙ ap Some (last ∙ sym here))
    ]
