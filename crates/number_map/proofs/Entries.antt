-- Keys and entries by their index.
use Rattle.std.proofs.Common.{◌≡◌, ℕ, zero, suc, Bool, true, false, List, [], ◌∷◌, slice_get, get_or, position, Option, Some, None, IfSome, is_some, refl, sym, ap, subst, ◌∙◌}
use Rattle.std.proofs.lemmas.Bool.{false≢true}
use Rattle.std.proofs.lemmas.Option.{none-some, same_Some, slice_get-get_or}
use Rattle.std.proofs.lemmas.List.Quantifiers.{position-Some}
use Rattle.std.specs.Map.{keys_of, values_of}

pub key_at : {K V : Type 0} → (es : List (K × V)) (n : ℕ) (k : K) (v : V) → Some (k, v) ≡ slice_get es n → slice_get (keys_of es) n ≡ Some k
key_at {K} {V} [] n k v h = absurd (none-some (k, v) (sym h))
key_at {K} {V} (e ∷ es) zero k v h = ap (λ x. Some x.0) (sym (same_Some (k, v) e h))
key_at {K} {V} (e ∷ es) (suc n) k v h = key_at es n k v h

pub entry_at : {K V : Type 0} → (es : List (K × V)) (i : ℕ) (k : K) → slice_get (keys_of es) i ≡ Some k → (v : V) × (slice_get es i ≡ Some (k, v))
entry_at {K} {V} [] i k h = absurd (none-some k h)
entry_at {K} {V} (e ∷ es) zero k h = (e.1, ap (λ x. Some (x, e.1)) (same_Some e.0 k h))
entry_at {K} {V} (e ∷ es) (suc i) k h = entry_at es i k h

pub value_at : {K V : Type 0} → (es : List (K × V)) (i : ℕ) (k : K) (v : V) → slice_get es i ≡ Some (k, v) → slice_get (values_of es) i ≡ Some v
value_at {K} {V} [] i k v h = absurd (none-some (k, v) h)
value_at {K} {V} (e ∷ es) zero k v h = ap (λ x. Some x.1) (same_Some e (k, v) h)
value_at {K} {V} (e ∷ es) (suc i) k v h = value_at es i k v h

pub not_some : {A : Type 0} → (o : Option A) → false ≡ is_some o → o ≡ None
not_some {A} None h = refl
not_some {A} (Some x) h = absurd (false≢true h)

pub if_some : {A : Type 0} → (o : Option A) (x : A) (P : A → Type 0) → o ≡ Some x → IfSome o P → P x
if_some {A} None x P h p = absurd (none-some x h)
if_some {A} (Some y) x P h p = subst P (same_Some y x h) p

pub at_position : {K : Type 0} → (eq : K → K → Bool) → ((a b : K) → eq a b ≡ true → a ≡ b) → (k : K) (ks : List K) (i : ℕ) → position (eq k) ks ≡ Some i → slice_get ks i ≡ Some k
at_position {K} eq so k ks i h =
    let p = position-Some (eq k) ks i k h in
    slice_get-get_or ks i k p.0 ∙ ap Some (sym (so k (get_or ks i k) p.1))
