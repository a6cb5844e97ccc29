-- The entries below a bound that pass, and their count.
use Rattle.std.proofs.Common.{◌≡◌, ℕ, zero, suc, ◌<◌, ◌≤◌, inl, inr, Bool, true, false, cond, [], ◌∷◌, ◌++◌, length, slice_get, Some, None, refl, sym, ap, ◌∙◌, arith}
use Rattle.std.proofs.lemmas.Bool.{cases_eq}
use Rattle.std.proofs.lemmas.Option.{none-some, same_Some, slice_get_within}
use Rattle.trace_model.specs.Theory.Trace.{last_place}
use Rattle.trace_model.specs.Theory.Closure.{Places, ascending_places}
use Rattle.trace_model.proofs.Lists.{get-append, get-push_last, length-push}
use Rattle.segments.specs.Linking.{count_below}

pub count_max : (test : Places) (n : ℕ) → count_below test n ≤ n
count_max test zero = omega arith
count_max test (suc n) = go (count_max test n) (test n)
  where
    go : count_below test n ≤ n → (b : Bool) → cond b (suc (count_below test n)) (count_below test n) ≤ suc n
    go more true = omega arith
    go more false = omega arith

pub count_last : (test : Places) (n p : ℕ) → last_place test n ≡ Some p → count_below test n ≡ suc (count_below test p)
count_last test zero p h = absurd (none-some p h)
count_last test (suc n) p h = go (test n) (count_last test n p) h
  where
    go : (b : Bool) → (last_place test n ≡ Some p → count_below test n ≡ suc (count_below test p)) → cond b (Some n) (last_place test n) ≡ Some p →
        cond b (suc (count_below test n)) (count_below test n) ≡ suc (count_below test p)
    go true less e = ap (λ m. suc (count_below test m)) (same_Some n p e)
    go false less e = less e

pub count_none : (test : Places) (n : ℕ) → last_place test n ≡ None → count_below test n ≡ 0
count_none test zero h = refl
count_none test (suc n) h = go (test n) (count_none test n) h
  where
    go : (b : Bool) → (last_place test n ≡ None → count_below test n ≡ 0) → cond b (Some n) (last_place test n) ≡ None →
        cond b (suc (count_below test n)) (count_below test n) ≡ 0
    go true less e = absurd (none-some n (sym e))
    go false less e = less e

pub count-agree : (f g : Places) (n : ℕ) → ((p : ℕ) → p < n → f p ≡ g p) → count_below f n ≡ count_below g n
count-agree f g zero h = refl
count-agree f g (suc n) h = rw (h n (omega arith), count-agree f g n (λ p l. h p (omega arith))) refl

-- the length of the list of passing places is their count
pub length_ascending : (test : Places) (n : ℕ) → length (ascending_places test n) ≡ count_below test n
length_ascending test zero = refl
length_ascending test (suc n) = go (length_ascending test n) (test n)
  where
    go : length (ascending_places test n) ≡ count_below test n → (b : Bool) →
        length (cond b (ascending_places test n ++ n ∷ []) (ascending_places test n)) ≡ cond b (suc (count_below test n)) (count_below test n)
    go more true = length-push (ascending_places test n) n ∙ ap suc more
    go more false = more

-- a passing place is in the list of them at the index that its count gives
pub nth : (test : Places) (n p : ℕ) → p < n → test p ≡ true → slice_get (ascending_places test n) (count_below test p) ≡ Some p
nth test zero p l h = absurd (omega arith)
nth test (suc n) p l h = elim (cases_eq p n) [
  | inl same ↦
      let here : test n ≡ true = ap test (sym same) ∙ h in
      ap (λ b. slice_get (cond b (ascending_places test n ++ n ∷ []) (ascending_places test n)) (count_below test p)) here
      ∙ ap (slice_get (ascending_places test n ++ n ∷ [])) (ap (count_below test) same ∙ sym (length_ascending test n))
      ∙ get-push_last (ascending_places test n) n ∙ ap Some (sym same)
  | inr other ↦
      let below : p < n = omega arith in
      more (nth test n p below h) (test n)
]
  where
    more : slice_get (ascending_places test n) (count_below test p) ≡ Some p → (b : Bool) →
        slice_get (cond b (ascending_places test n ++ n ∷ []) (ascending_places test n)) (count_below test p) ≡ Some p
    more e true = get-append (ascending_places test n) (n ∷ []) (count_below test p) (slice_get_within (ascending_places test n) (count_below test p) p e) ∙ e
    more e false = e
