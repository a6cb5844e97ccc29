-- The words of a line, and the lines of a file.
use Rattle.std.proofs.Common.{◌≡◌, ℕ, zero, suc, ◌<◌, ◌≤◌, Bool, true, false, cond, not, eqb, List, [], ◌∷◌, Some, length, if◌then◌else◌, refl, sym, ap, ◌∙◌, arith}
use Rattle.std.specs.Prelude.{slice_get}
use Rattle.std.specs.List.{filter, onto_first, slice_split}
use Rattle.std.proofs.lemmas.Bool.{ne_eqb, true≢false}
use Rattle.std.proofs.lemmas.Option.{none-some, same_Some}
use Rattle.event_files.specs.EventFile.{is_comment, is_word, line_words, unless_comment, HasBadWord}
use Rattle.event_files.specs.WitnessFile.{has_words}

-- a space at the beginning of a line
pub after_space : (byte : ℕ) (line : List ℕ) → byte ≡ 32 → has_words (line_words (byte ∷ line)) ≡ has_words (line_words line)
after_space byte line is = ap (λ b. has_words (line_words (b ∷ line))) is

not_comment : (b : Bool) (words : List (List ℕ)) (word : List ℕ) → has_words (if b then [] else word ∷ words) ≡ not b
not_comment true words word = refl
not_comment false words word = refl

first_word : (byte : ℕ) (pieces : List (List ℕ)) → has_words (unless_comment (filter is_word (onto_first byte pieces))) ≡ not (eqb byte 35)
first_word byte [] = not_comment (eqb byte 35) [] (byte ∷ [])
first_word byte (piece ∷ pieces) = not_comment (eqb byte 35) (filter is_word pieces) (byte ∷ piece)

-- another byte there
pub at_byte : (byte : ℕ) (line : List ℕ) → (byte ≡ 32 → ⊥) → has_words (line_words (byte ∷ line)) ≡ not (eqb byte 35)
at_byte byte line other =
    let pieces = slice_split (λ b. eqb b 32) line in
    ap (λ b. has_words (unless_comment (filter is_word (cond b ([] ∷ pieces) (onto_first byte pieces))))) (ne_eqb byte 32 other) ∙ first_word byte pieces

-- a line with words is no comment
unless_comment_by : (b : Bool) (word : List ℕ) (words : List (List ℕ)) → has_words (if b then [] else word ∷ words) ≡ true → (if b then [] else word ∷ words) ≡ word ∷ words
unless_comment_by true word words some = absurd (true≢false (sym some))
unless_comment_by false word words some = refl

pub no_comment : (words : List (List ℕ)) → has_words (unless_comment words) ≡ true → unless_comment words ≡ words
no_comment [] some = refl
no_comment (word ∷ words) some = unless_comment_by (is_comment word) word words some

pub no_words : (words : List (List ℕ)) → has_words words ≡ false → words ≡ []
no_words [] none = refl
no_words (word ∷ words) none = absurd (true≢false none)

-- a line with a word that is no event has a byte
pub bad_line_some : (line : List ℕ) → HasBadWord (line_words line) → 0 < length line
bad_line_some [] (i, word, at, bad) = absurd (none-some word at)
bad_line_some (byte ∷ line) bad = omega arith

later_part : (x : ℕ) (parts : List (List ℕ)) (i : ℕ) (part : List ℕ) → slice_get (onto_first x parts) (suc i) ≡ Some part → slice_get parts (suc i) ≡ Some part
later_part x [] i part at = at
later_part x (first ∷ parts) i part at = at

part_after : (b : Bool) (x : ℕ) (parts : List (List ℕ)) (i : ℕ) (part : List ℕ) → slice_get (cond b ([] ∷ parts) (onto_first x parts)) (suc i) ≡ Some part →
    (j : ℕ) × (i ≤ j) × (slice_get parts j ≡ Some part)
part_after true x parts i part at = (i, omega arith, at)
part_after false x parts i part at = (suc i, omega arith, later_part x parts i part at)

-- before a part with a byte are no more cuts than bytes
pub parts_before : (p : ℕ → Bool) (xs : List ℕ) (i : ℕ) (part : List ℕ) → slice_get (slice_split p xs) i ≡ Some part → 0 < length part → i < length xs
parts_before p [] zero part at some = absurd (omega (arith, ap length (same_Some [] part at)))
parts_before p [] (suc i) part at some = absurd (none-some part at)
parts_before p (x ∷ xs) zero part at some = omega arith
parts_before p (x ∷ xs) (suc i) part at some =
    let later = part_after (p x) x (slice_split p xs) i part at in
    omega (arith, later.1, parts_before p xs later.0 part later.2 some)
