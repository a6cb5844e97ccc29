use Rattle.std.proofs.Common.{inl, inr, [], ◌∷◌, ◌++◌, slice_get, refl, sym, ap, subst, ◌∙◌}
use Rattle.std.specs.List.{Contains}
use Rattle.trace_model.specs.Theory.Refutation.{derived_places}
use Rattle.trace_model.proofs.Theory.Ascending.{contains_at}
use Rattle.explain.specs.EntryTable.{AreIndices}
use Rattle.explain.specs.DerivationSearch.{derived_by}
use Rattle.explain.proofs.Adding.{extends_refl, added}
use Rattle.explain.proofs.search.DerivationSearch.add.Goals as goal

pub returns-in-Some-clause-added : goal.returns-in-Some-clause-added
returns-in-Some-clause-added c s places is j =
    let old = c.args.self.now in
    let i = c.in-Some.field-0 in
    (is, extends_refl s old, contains_at (derived_by old) c.args.place i (ap (λ xs. slice_get (derived_places xs) i) (sym c.deref.ensures.value) ∙ c.in-Some.ensures))

pub returns-in_ok-push-in-None-clause-added : goal.returns-in_ok-push-in-None-clause-added
returns-in_ok-push-in-None-clause-added c s places is h =
    let old = c.args.self.now in
    let p = c.args.place in
    let t = c.put.new.self in
    let fresh = subst (λ xs. AreIndices old.indices (derived_places xs) → Contains (derived_places xs) p → ⊥) c.deref.ensures.value c.in-None.ensures is.indices in
    let put = subst (λ xs. AreIndices old.indices (derived_places xs) → (Contains (derived_places xs) p → ⊥) → AreIndices t (derived_places xs ++ p ∷ []))
    c.deref-in-None.ensures.value c.in_ok-put-in-None.ensures is.indices fresh in
    elim h [
      | inl d ↦ absurd (fresh d)
      | inr j ↦ added s places old (record old { entries = c.push.new.self; indices = t }) p c.args.reason.now fresh put c.in_ok-push-in-None.ensures.items is refl refl refl j
    ]
