-- The bits of a key filter, and the keys that it has.
use Rattle.std.proofs.Common.{◌≡◌, cond, Some, ℕ, zero, suc, [], ◌∷◌, slice_get, ◌*◌, ◌/◌, ◌%◌, ◌^◌, ◌<◌, ◌==◌, Bool, true, false, List, length, get_or, refl, sym, ap, subst, ◌∙◌, arith, w64, bit_or, eqb-true, eq-eqb}
use Rattle.std.proofs.lemmas.Bool.{eqb-false}
use Rattle.std.proofs.lemmas.List.{get_or-set_same, get_or-set_other}
use Rattle.std.proofs.lemmas.Nat.Bits.{bit_at_set_same, bit_at_set_other}
use Rattle.std.specs.Prelude.{slice_set}
use Rattle.std.specs.Int.{bit_at}
use Rattle.std.specs.HashMap.{HashMap, get}
use Rattle.std.specs.Map.{keys_of, lookup}
use Rattle.std.proofs.lemmas.Option.{none-some, same_Some}
use Rattle.trace_index.specs.declared.row.Key.{Key}
use Rattle.trace_index.specs.declared.key_filter.KeyFilter.{KeyFilter}
use Rattle.trace_index.specs.Links.{same_key}
use Rattle.trace_index.specs.KeyFilter.{may_have, HasKeysOf}
use Rattle.trace_index.proofs.Keys.{same_so, same_itself}

-- bit n of the words is set, as a test
abbrev pub is_set : List ℕ → ℕ → Bool
is_set words n = bit_at (get_or words (n / 64 % 64) 0) (n % 64) == 1

abbrev pub with_bit : List ℕ → ℕ → List ℕ
with_bit words n = slice_set words (n / 64 % 64) (bit_or (get_or words (n / 64 % 64) 0) (1 * 2 ^ (n % 64) % 18446744073709551616))

module _ (words : List ℕ) (n : ℕ) (full : length words ≡ 64) where
  abbrev word : ℕ
  word = bit_or (get_or words (n / 64 % 64) 0) (1 * 2 ^ (n % 64) % 18446744073709551616)

  here : get_or (with_bit words n) (n / 64 % 64) 0 ≡ word
  here = get_or-set_same words (n / 64 % 64) word 0 (omega arith)

  low : n % 64 < 64
  low = omega arith

  pub bit_set : is_set (with_bit words n) n ≡ true
  bit_set = ap (λ w. bit_at w (n % 64) == 1) here ∙ eq-eqb _ 1 (bit_at_set_same w64 (get_or words (n / 64 % 64) 0) (n % 64) low)

  pub bits_stay : (k : ℕ) → is_set words k ≡ true → is_set (with_bit words n) k ≡ true
  bits_stay k h = go (k / 64 % 64 == n / 64 % 64) refl
    where
      one : bit_at (get_or words (k / 64 % 64) 0) (k % 64) ≡ 1
      one = eqb-true _ 1 h

      same_word : (b : Bool) → (k % 64 == n % 64) ≡ b → k / 64 % 64 ≡ n / 64 % 64 → bit_at word (k % 64) ≡ 1
      same_word true e at = ap (bit_at word) (eqb-true (k % 64) (n % 64) e) ∙ bit_at_set_same w64 (get_or words (n / 64 % 64) 0) (n % 64) low
      same_word false e at =
          bit_at_set_other w64 (get_or words (n / 64 % 64) 0) (n % 64) low (k % 64) (eqb-false (k % 64) (n % 64) e)
          ∙ ap (λ i. bit_at (get_or words i 0) (k % 64)) (sym at) ∙ one

      go : (b : Bool) → (k / 64 % 64 == n / 64 % 64) ≡ b → is_set (with_bit words n) k ≡ true
      go true e =
          let at = eqb-true (k / 64 % 64) (n / 64 % 64) e in
          eq-eqb _ 1 (ap (λ i. bit_at (get_or (with_bit words n) i 0) (k % 64)) at ∙ ap (λ w. bit_at w (k % 64)) here ∙ same_word (k % 64 == n % 64) refl at)
      go false e =
          ap (λ w. bit_at w (k % 64) == 1) (get_or-set_other words (n / 64 % 64) (k / 64 % 64) word 0 (eqb-false (k / 64 % 64) (n / 64 % 64) e)) ∙ h

module _ {S : Type 0} (f g : KeyFilter) (m after : HashMap Key ℕ S) (key : Key) (place : ℕ) (covers : HasKeysOf f m) where
  -- with one more noted key, the filter has each key of a map in which that key has a place
  pub covered_more : may_have g key ≡ true → ((q : Key) → may_have f q ≡ true → may_have g q ≡ true) →
      ((q : Key) → get same_key after q ≡ cond (same_key key q) (Some place) (get same_key m q)) → HasKeysOf g after
  covered_more noted kept is q p found = go (same_key key q) refl
    where
      go : (b : Bool) → same_key key q ≡ b → may_have g q ≡ true
      go true e = subst (λ k. may_have g k ≡ true) (same_so key q e) noted
      go false e = kept q (covers q p (sym (ap (λ b. cond b (Some place) (get same_key m q)) e) ∙ sym (is q) ∙ found))

-- a key at a position has a place
pub has_place : (es : List (Key × ℕ)) (i : ℕ) (key : Key) → slice_get (keys_of es) i ≡ Some key → (place : ℕ) × (lookup (same_key key) es ≡ Some place)
has_place [] i key h = absurd (none-some key h)
has_place (e ∷ es) zero key h = (e.1, ap (λ b. cond b (Some e.1) (lookup (same_key key) es)) (ap (same_key key) (same_Some e.0 key h) ∙ same_itself key))
has_place (e ∷ es) (suc i) key h = go (same_key key e.0) (has_place es i key h)
  where
    go : (b : Bool) → (place : ℕ) × (lookup (same_key key) es ≡ Some place) → (place : ℕ) × (cond b (Some e.1) (lookup (same_key key) es) ≡ Some place)
    go true rest = (e.1, refl)
    go false rest = rest
