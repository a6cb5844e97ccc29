-- New arrays.
use Rattle.std.proofs.Common.{◌≡◌, ℕ, zero, suc, ◌==◌, false, List, slice_get, replicate, Option, Some, None, if◌then◌else◌, refl, sym, ap, ◌∙◌}
use Rattle.std.specs.Option.{option_map_or}
use Rattle.std.proofs.lemmas.Bool.{eq-eqb}
use Rattle.std.proofs.lemmas.Option.{none-some, same_Some}
use Rattle.fronts.specs.EpochArrays.{entry_of}

-- A list of zeros contains no other number.
pub all_zero : (n e x : ℕ) → slice_get (replicate n 0) e ≡ Some x → x ≡ 0
all_zero zero e x at = absurd (none-some x at)
all_zero (suc n) zero x at = sym (same_Some 0 x at)
all_zero (suc n) (suc e) x at = all_zero n e x at

-- If all epochs are 0, no entry has a value in epoch 1.
pub none_stamped : {T : Type 0} (values : List T) (epochs : List ℕ) → ((e x : ℕ) → slice_get epochs e ≡ Some x → x ≡ 0) → (e : ℕ) → entry_of values epochs 1 e ≡ None
none_stamped values epochs zeros e = go (slice_get epochs e) refl
  where
    go : (o : Option ℕ) → slice_get epochs e ≡ o → (if option_map_or (λ s. s == 1) o false then slice_get values e else None) ≡ None
    go None h = refl
    go (Some x) h = rw (zeros e x h) refl

-- An entry with the current epoch has its value.
pub stamped : {T : Type 0} (values : List T) (epochs : List ℕ) (epoch e s : ℕ) (v : T) → slice_get epochs e ≡ Some s → s ≡ epoch → slice_get values e ≡ Some v →
    Some v ≡ entry_of values epochs epoch e
stamped values epochs epoch e s v at is value =
    let counts = ap (λ o. option_map_or (λ z. z == epoch) o false) at ∙ eq-eqb s epoch is in
    sym (ap (λ b. if b then slice_get values e else None) counts ∙ value)
