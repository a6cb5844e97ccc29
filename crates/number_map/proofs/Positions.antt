-- What the position of a number says of the entries.
use Rattle.std.proofs.Common.{◌≡◌, ℕ, zero, suc, ◌+◌, Bool, not, true, false, cond, nat_eq, List, [], ◌∷◌, length, slice_get, Option, Some, None, IsSome, is_some, refl, sym, ap, subst, ◌∙◌, arith}
use Rattle.std.proofs.lemmas.Bool.{eq-eqb, ne_eqb, eqb-true, eqb-false, false≢true}
use Rattle.std.proofs.lemmas.Option.{none-some, same_Some}
use Rattle.std.proofs.lemmas.Map.{lookup-set_value}
use Rattle.std.specs.Cmp.{nat_eq_equiv}
use Rattle.indexmap.specs.IndexMap.{insert_entry, set_value_at}
use Rattle.std.specs.List.{AllByRecursion, IsDistinct, position_or_len}
use Rattle.std.specs.Map.{keys_of, values_of, lookup, set_value}
use Rattle.number_map.specs.Positions.{HasNumberAt}
use Rattle.number_map.proofs.Entries.{entry_at, value_at}

module _ {V : Type 0} (es : List (ℕ × V)) (n : ℕ) (position : Option ℕ) (has : HasNumberAt es n position) (i : ℕ) (is : position ≡ Some i) where
  -- the entry at the position has the number's value
  pub shown_at : (k : ℕ) (v : V) → Some (k, v) ≡ slice_get es i → Some v ≡ lookup (nat_eq n) es
  shown_at k v at = sym (value_at es i k v (sym at)) ∙ has.value i is

  -- there is an entry at the position
  pub not_gone : None ≡ slice_get es i → ⊥
  not_gone h = let e = entry_at es i n (has.key i is) in none-some (n, e.0) (h ∙ e.1)

  -- the number has an entry
  pub is_there : IsSome (lookup (nat_eq n) es)
  is_there = found es i (has.key i is)
    where
      found : (xs : List (ℕ × V)) (j : ℕ) → slice_get (keys_of xs) j ≡ Some n → IsSome (lookup (nat_eq n) xs)
      found [] j h = absurd (none-some n h)
      found (e ∷ xs) zero h = subst (λ b. IsSome (cond b (Some e.1) (lookup (nat_eq n) xs))) (sym (eq-eqb n e.0 (sym (same_Some e.0 n h)))) refl
      found (e ∷ xs) (suc j) h = either (nat_eq n e.0) (found xs j h)
        where
          either : (b : Bool) → IsSome (lookup (nat_eq n) xs) → IsSome (cond b (Some e.1) (lookup (nat_eq n) xs))
          either true r = refl
          either false r = r

-- distinct keys: a key at another index is another number
apart : (x m : ℕ) (ks : List ℕ) (j : ℕ) → AllByRecursion (λ y. nat_eq x y ≡ false) ks → slice_get ks j ≡ Some m → nat_eq m x ≡ false
apart x m [] j all at = absurd (none-some m at)
apart x m (k ∷ ks) zero all at = ne_eqb m x (λ same. eqb-false x k all.0 (sym same ∙ sym (same_Some k m at)))
apart x m (k ∷ ks) (suc j) all at = apart x m ks j all.1 at

-- a write at the position of a number is a write of the number's value, since it has one entry
pub set_at_own : {V : Type 0} → (es : List (ℕ × V)) (n i : ℕ) (w : V) → IsDistinct nat_eq (keys_of es) → slice_get (keys_of es) i ≡ Some n →
    set_value_at es i w ≡ set_value (nat_eq n) es w
unfolding IsDistinct
set_at_own {V} [] n i w once h = refl
set_at_own {V} (e ∷ es) n zero w once h = rw (eq-eqb n e.0 (sym (same_Some e.0 n h))) refl
set_at_own {V} (e ∷ es) n (suc i) w once h = rw (apart e.0 n (keys_of es) i once.0 h) (ap (λ xs. e ∷ xs) (set_at_own es n i w once.1 h))

-- so each number but this one keeps its value
pub set_own : {V : Type 0} → (es old new : List (ℕ × V)) (n i q : ℕ) (w : V) → es ≡ old → new ≡ set_value_at es i w →
    IsDistinct nat_eq (keys_of es) → HasNumberAt old n (Some i) → lookup (nat_eq q) new ≡ cond (nat_eq n q) (Some w) (lookup (nat_eq q) old)
set_own {V} es old new n i q w was is once has =
    ap (lookup (nat_eq q)) (is ∙ set_at_own es n i w once own ∙ ap (λ xs. set_value (nat_eq n) xs w) was)
    ∙ lookup-set_value nat_eq_equiv (nat_eq n) (λ x y h. ap (λ k. nat_eq k y) (eqb-true n x h)) q w old (is_there old n (Some i) has i refl)
  where
    own : slice_get (keys_of es) i ≡ Some n
    own = ap (λ xs. slice_get (keys_of xs) i) was ∙ has.key i refl

-- the position of a number has a value
pub not_lost : {V : Type 0} → (es old : List (ℕ × V)) (n i : ℕ) → es ≡ old → HasNumberAt old n (Some i) → None ≡ slice_get (values_of es) i → ⊥
not_lost {V} es old n i was has lost =
    let gone = lost ∙ ap (λ xs. slice_get (values_of xs) i) was ∙ has.value i refl in
    false≢true (ap is_some gone ∙ is_there old n (Some i) has i refl)

-- a number has a position exactly if it has a value
pub is_found : {V : Type 0} → (es : List (ℕ × V)) (n : ℕ) (position : Option ℕ) → HasNumberAt es n position → is_some position ≡ is_some (lookup (nat_eq n) es)
is_found {V} es n None has = sym (ap is_some (has.absent refl))
is_found {V} es n (Some i) has = sym (is_there es n (Some i) has i refl)

-- the value at the position of a number is its value, since it has one entry
value_own : {V : Type 0} → (es : List (ℕ × V)) (n i : ℕ) → IsDistinct nat_eq (keys_of es) → slice_get (keys_of es) i ≡ Some n →
    slice_get (values_of es) i ≡ lookup (nat_eq n) es
unfolding IsDistinct
value_own {V} [] n i once h = absurd (none-some n h)
value_own {V} (e ∷ es) n zero once h = rw (eq-eqb n e.0 (sym (same_Some e.0 n h))) refl
value_own {V} (e ∷ es) n (suc i) once h = rw (apart e.0 n (keys_of es) i once.0 h) (value_own es n i once.1 h)

-- a number with an entry is at the first position of its key
found_first : {V : Type 0} → (es : List (ℕ × V)) (n : ℕ) → IsSome (lookup (nat_eq n) es) → slice_get (keys_of es) (position_or_len (nat_eq n) (keys_of es)) ≡ Some n
found_first {V} [] n there = absurd (false≢true there)
found_first {V} (e ∷ es) n there = go (nat_eq n e.0) refl there (found_first es n)
  where
    go : (b : Bool) → nat_eq n e.0 ≡ b → IsSome (cond b (Some e.1) (lookup (nat_eq n) es)) →
        (IsSome (lookup (nat_eq n) es) → slice_get (keys_of es) (position_or_len (nat_eq n) (keys_of es)) ≡ Some n) →
        slice_get (e.0 ∷ keys_of es) (cond (not b) (1 + position_or_len (nat_eq n) (keys_of es)) 0) ≡ Some n
    go true is h rest = ap Some (sym (eqb-true n e.0 is))
    go false is h rest =
        let next : suc (position_or_len (nat_eq n) (keys_of es)) ≡ 1 + position_or_len (nat_eq n) (keys_of es) = omega arith in
        subst (λ i. slice_get (e.0 ∷ keys_of es) i ≡ Some n) next (rest h)

pub has_found : {V : Type 0} → (es more : List (ℕ × V)) (n i : ℕ) → more ≡ es → IsSome (lookup (nat_eq n) es) → i ≡ position_or_len (nat_eq n) (keys_of es) →
    IsDistinct nat_eq (keys_of es) → HasNumberAt more n (Some i)
has_found {V} es more n i same there is once = subst (λ xs. HasNumberAt xs n (Some i)) (sym same) (record {
  key = λ j h. subst (λ k. slice_get (keys_of es) k ≡ Some n) (same_Some i j h) at;
  value = λ j h. subst (λ k. slice_get (values_of es) k ≡ lookup (nat_eq n) es) (same_Some i j h) (value_own es n i once at);
  absent = λ h. absurd (none-some i (sym h));
})
  where
    at : slice_get (keys_of es) i ≡ Some n
    at = ap (slice_get (keys_of es)) is ∙ found_first es n there

-- a new number is at the end
added_last : {V : Type 0} → (es : List (ℕ × V)) (n : ℕ) (v : V) → lookup (nat_eq n) es ≡ None →
    slice_get (keys_of (insert_entry nat_eq es n v)) (length es) ≡ Some n
added_last {V} [] n v new = refl
added_last {V} (e ∷ es) n v new = go (nat_eq n e.0) new (added_last es n v)
  where
    go : (b : Bool) → cond b (Some e.1) (lookup (nat_eq n) es) ≡ None →
        (lookup (nat_eq n) es ≡ None → slice_get (keys_of (insert_entry nat_eq es n v)) (length es) ≡ Some n) →
        slice_get (keys_of (cond b ((e.0, v) ∷ es) (e ∷ insert_entry nat_eq es n v))) (suc (length es)) ≡ Some n
    go true h rest = absurd (none-some e.1 (sym h))
    go false h rest = rest h

pub has_added : {V : Type 0} → (es more : List (ℕ × V)) (n : ℕ) (v : V) → lookup (nat_eq n) es ≡ None → more ≡ insert_entry nat_eq es n v →
    IsDistinct nat_eq (keys_of more) → HasNumberAt more n (Some (length es))
has_added {V} es more n v new is once = record {
  key = λ i h. subst (λ j. slice_get (keys_of more) j ≡ Some n) (same_Some (length es) i h) at;
  value = λ i h. subst (λ j. slice_get (values_of more) j ≡ lookup (nat_eq n) more) (same_Some (length es) i h) (value_own more n (length es) once at);
  absent = λ h. absurd (none-some (length es) (sym h));
}
  where
    at : slice_get (keys_of more) (length es) ≡ Some n
    at = ap (λ xs. slice_get (keys_of xs) (length es)) is ∙ added_last es n v new
