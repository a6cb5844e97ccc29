-- The bases that a scratch keeps besides the present one.
use Rattle.std.proofs.Common.{◌≡◌, ℕ, zero, suc, List, [], ◌∷◌, ◌++◌, set, Option, Some, None, inl, inr, ◌⊎◌, slice_get, sym, ◌∙◌}
use Rattle.std.proofs.lemmas.Option.{same_Some, none-some}
use Rattle.sp_closure.specs.declared.base.Base.{Base}
use Rattle.fronts.specs.declared.propagation.Propagation.{Propagation}
use Rattle.fronts.specs.declared.requirements.ThreadPrefix.{ThreadPrefix}
use Rattle.sp_closure.specs.declared.scratch.ClosureScratch.{ClosureScratch}
use Rattle.trace_model.specs.Theory.Trace.{Trace}
use Rattle.fronts.specs.declared.requirements.Requirements.{Requirements}
use Rattle.sp_closure.specs.Scratches.{HasBase, KeepsPlaces, PlacesStay, base_total, total_over}

-- An element of a list with one more at its end is one of the list, or that one.
pub pushed_at : {X : Type 0} (xs : List X) (x : X) (i : ℕ) (b : X) → slice_get (xs ++ x ∷ []) i ≡ Some b → (slice_get xs i ≡ Some b) ⊎ (b ≡ x)
pushed_at [] x zero b e = inr (sym (same_Some _ _ e))
pushed_at [] x (suc i) b e = absurd (none-some b e)
pushed_at (y ∷ xs) x zero b e = inl e
pushed_at (y ∷ xs) x (suc i) b e = pushed_at xs x i b e

-- An element of a list in which one was changed is one of the list, or that one.
pub set_at : {X : Type 0} (xs : List X) (k : ℕ) (x : X) (i : ℕ) (b : X) → slice_get (set xs k x) i ≡ Some b → (slice_get xs i ≡ Some b) ⊎ (b ≡ x)
set_at [] k x i b e = inl e
set_at (y ∷ xs) zero x zero b e = inr (sym (same_Some _ _ e))
set_at (y ∷ xs) zero x (suc i) b e = inl e
set_at (y ∷ xs) (suc k) x zero b e = inl e
set_at (y ∷ xs) (suc k) x (suc i) b e = set_at xs k x i b e

-- Other bases that existed, or have no prefix, add no base.
pub has_others : (d : Requirements) (c new : ClosureScratch) (of : Option ThreadPrefix) (n : ℕ) → new.base_of ≡ c.base_of → base_total d new ≡ base_total d c →
    ((w : Propagation) → total_over new.none w d ≡ total_over c.none w d) →
    ((i : ℕ) (b : Base) → slice_get new.others.items i ≡ Some b → (b.of ≡ None) ⊎ (slice_get c.others.items i ≡ Some b)) → HasBase d new of n → HasBase d c of n
has_others d c new of n base total over each (inl e) = inl e
has_others d c new of n base total over each (inr (inl e)) = inr (inl (e.0 ∙ base, e.1 ∙ total))
has_others d c new of n base total over each (inr (inr o)) = go (each o.index o.other o.at)
  where
    go : (o.other.of ≡ None) ⊎ (slice_get c.others.items o.index ≡ Some o.other) → HasBase d c of n
    go (inl e) = inl (o.prefix ∙ e)
    go (inr e) = inr (inr (record { index = o.index; other = o.other; at = e; prefix = o.prefix; places = o.places ∙ over o.other.propagation }))

-- The places that stay of the exchanged base were kept by the scratch.
pub stays_kept : (s : Trace) (d : Requirements) (c new : ClosureScratch) (m k : ℕ) → HasBase d c new.base_of (base_total d new) → PlacesStay s d new m k → KeepsPlaces s d c m k
stays_kept s d c new m k has stays = record {
  p = stays.p;
  first = stays.first;
  of = new.base_of;
  places = base_total d new;
  has = has;
  count = stays.count;
}
