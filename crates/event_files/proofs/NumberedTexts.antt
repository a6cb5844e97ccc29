-- Texts in which numbers stand between literals.
use Rattle.std.proofs.Common.{◌≡◌, ℕ, ◌+◌, ◌<◌, ◌≤◌, ◌^◌, Bool, true, false, cond, not, List, [], ◌∷◌, ◌++◌, Some, None, length, take, drop, decimal, codes, refl, sym, ap, subst, ◌∙◌, arith, append_assoc}
use Rattle.std.specs.Char.{is_ascii_digit}
use Rattle.std.specs.List.{All, position, position_or_len}
use Rattle.std.specs.Str.Parse.{AllDigits}
use Rattle.std.proofs.Math.Seq.{take-append_seam}
use Rattle.std.proofs.lemmas.Bool.{true≢false, and_parts}
use Rattle.std.proofs.lemmas.Bool.Decides.{nat_tests}
use Rattle.std.proofs.lemmas.Grind.{flat_map-append}
use Rattle.std.proofs.lemmas.Fmt.{decimal_is_IsNumeral, decimal_nonempty, decimal_injective}
use Rattle.std.proofs.lemmas.List.{append_cancel_left, append-nil}
use Rattle.std.proofs.lemmas.List.Elements.{All-cons, All-head, All-nil, All-tail}
use Rattle.std.proofs.lemmas.List.Prefix.{front_rest}
use Rattle.std.proofs.lemmas.List.Sums.{prefix_len-le-length}
use Rattle.std.proofs.lemmas.Option.{cond_some, none-some}
use Rattle.std.proofs.lemmas.Str.Parse.{digit_from_value}
use Rattle.event_files.specs.EventFile.{is_no_digit}
use Rattle.event_files.specs.NumberedText.{AreSmall, after_space, is_after_number, is_after_numbers, after_spaces}
use Rattle.event_files.specs.Refutations.{label_and_number}

pub digit_is : (c : ℕ) → 48 ≤ c → c ≤ 57 → is_ascii_digit c ≡ true
digit_is c low high = grind (arith, nat_tests)

-- how many digits a text of digits has before another byte
pub digits_before : (ds rest : List ℕ) → AllDigits 10 ds → is_after_number rest ≡ true → position_or_len is_no_digit (ds ++ rest) ≡ length ds
digits_before [] [] all stops = refl
digits_before [] (c ∷ rest) all stops = ap (λ b. cond (not b) (1 + position_or_len is_no_digit rest) 0) stops
digits_before (d ∷ ds) rest all stops =
    let r = digit_from_value d all.0 in
    ap (λ b. cond (not (not b)) (1 + position_or_len is_no_digit (ds ++ rest)) 0) (digit_is d (omega (arith, r)) (omega (arith, r))) ∙ omega (arith, digits_before ds rest all.1 stops)

pub counted_digits : (n : ℕ) (rest : List ℕ) → n < 2 ^ 32 → is_after_number rest ≡ true → position_or_len is_no_digit (decimal n ++ rest) ≡ length (decimal n)
counted_digits n rest small stops = digits_before (decimal n) rest (decimal_is_IsNumeral n (omega arith)).0.1 stops

-- the index of the first byte that is no digit, or the length
pub first_other : (text : List ℕ) (place : ℕ) → position is_no_digit text ≡ Some place → place ≡ position_or_len is_no_digit text
first_other text place found = sym (cond_some _ _ _ found).1

no_some : {A : Type 0} (b : Bool) (x : A) → cond b (Some x) None ≡ None → b ≡ false
no_some true x e = absurd (none-some x (sym e))
no_some false x e = refl

pub no_other : (text : List ℕ) → position is_no_digit text ≡ None → length text ≡ position_or_len is_no_digit text
no_other text none =
    let past = no_some _ _ none in
    let most = prefix_len-le-length (λ b. not (is_no_digit b)) text in
    grind (arith, nat_tests)

-- a text begins with a number and the rest
pub record BeginsWith (text : List ℕ) (n : ℕ) (rest : List ℕ) (count : ℕ) : Type 0 where
  pub digits : take count text ≡ decimal n
  pub others : drop count text ≡ rest

pub number_begins : (text : List ℕ) (n : ℕ) (rest : List ℕ) (count : ℕ) → n < 2 ^ 32 → is_after_number rest ≡ true → text ≡ decimal n ++ rest → count ≡ position_or_len is_no_digit text → BeginsWith text n rest count
number_begins text n rest count small stops is counts =
    let c : count ≡ length (decimal n) = counts ∙ (ap (position_or_len is_no_digit) is ∙ counted_digits n rest small stops) in
    record {
      digits = (λ i. take (c i) (is i)) ∙ take-append_seam (decimal n) rest;
      others = (λ i. drop (c i) (is i)) ∙ front_rest (decimal n ++ rest) (decimal n) rest refl;
    }

-- two texts that begin with numbers
pub same_numbers : (m n : ℕ) (a b : List ℕ) → m < 2 ^ 32 → n < 2 ^ 32 → is_after_number a ≡ true → is_after_number b ≡ true → decimal m ++ a ≡ decimal n ++ b → (m ≡ n) × (a ≡ b)
same_numbers m n a b ms ns astop bstop e =
    let count = position_or_len is_no_digit (decimal m ++ a) in
    let left = number_begins (decimal m ++ a) m a count ms astop refl refl in
    let right = number_begins (decimal m ++ a) n b count ns bstop e refl in
    (decimal_injective m n (omega arith) (omega arith) (sym left.digits ∙ right.digits), sym left.others ∙ right.others)

pub same_labeled : (label : List ℕ) (m n : ℕ) (a b : List ℕ) → m < 2 ^ 32 → n < 2 ^ 32 → is_after_number a ≡ true → is_after_number b ≡ true → label_and_number label m ++ a ≡ label_and_number label n ++ b → (m ≡ n) × (a ≡ b)
same_labeled label m n a b ms ns astop bstop e =
    same_numbers m n a b ms ns astop bstop (append_cancel_left label _ _ (sym (append_assoc label (decimal m) a) ∙ e ∙ append_assoc label (decimal n) b))

first_digit : (ds rest : List ℕ) → AllDigits 10 ds → 0 < length ds → is_after_number (ds ++ rest) ≡ false
first_digit [] rest all some = absurd (omega arith)
first_digit (d ∷ ds) rest all some = let r = digit_from_value d all.0 in ap not (digit_is d (omega (arith, r)) (omega (arith, r)))

-- a text that begins with a number does not begin as one after a number
pub not_after : (n : ℕ) (rest : List ℕ) → n < 2 ^ 32 → is_after_number (decimal n ++ rest) ≡ false
not_after n rest small = first_digit (decimal n) rest (decimal_is_IsNumeral n (omega arith)).0.1 (decimal_nonempty n (omega arith))

-- what comes after numbers, or more numbers, does not begin with a digit
pub stops_spaced : (numbers rest : List ℕ) → is_after_numbers rest ≡ true → is_after_number (after_spaces numbers ++ rest) ≡ true
stops_spaced [] rest stops = (and_parts (is_after_number rest) (is_after_number (after_space rest)) stops).0
stops_spaced (n ∷ numbers) rest stops = refl

-- the numbers that are still to be read from a text
pub record LeftOf (items : List ℕ) (text : List ℕ) (numbers rest : List ℕ) : Type 0 where
  pub more : List ℕ
  pub numbers_are : numbers ≡ items ++ more
  pub text_is : text ≡ after_spaces more ++ rest

-- a text in which one number after a space was read
pub record IsOneNumber (text : List ℕ) (n : ℕ) (next : List ℕ) : Type 0 where
  pub small : n < 2 ^ 32
  pub is : text ≡ label_and_number (codes " ") n ++ next
  pub only : (m : ℕ) (tail : List ℕ) → m < 2 ^ 32 → is_after_number tail ≡ true → text ≡ label_and_number (codes " ") m ++ tail → (n ≡ m) × (next ≡ tail)

one_fewer : (items text next more numbers rest : List ℕ) (n : ℕ) → IsOneNumber text n next → AreSmall more → is_after_numbers rest ≡ true →
    numbers ≡ items ++ more → text ≡ after_spaces more ++ rest → LeftOf (items ++ n ∷ []) next numbers rest
one_fewer items text next [] numbers rest n read small stops are is =
    let bad = (and_parts (is_after_number rest) (is_after_number (after_space rest)) stops).1 in
    let begins : rest ≡ label_and_number (codes " ") n ++ next = sym is ∙ read.is in
    absurd (true≢false (sym (subst (λ t. is_after_number (after_space t) ≡ true) begins bad) ∙ not_after n next read.small))
one_fewer items text next (m ∷ more) numbers rest n read small stops are is =
    let here = is ∙ append_assoc (label_and_number (codes " ") m) (after_spaces more) rest in
    let same = read.only m (after_spaces more ++ rest) (All-head (λ k. k < 2 ^ 32) m more small) (stops_spaced more rest stops) here in
    record {
      more = more;
      numbers_are = are ∙ (sym (append_assoc items (m ∷ []) more) ∙ ap (λ k. (items ++ k ∷ []) ++ more) (sym same.0));
      text_is = same.1;
    }

-- what holds of each element of two lists holds of each of either
pub front_all : {X : Type 0} (P : X → Type 0) (xs ys : List X) → All P (xs ++ ys) → All P xs
front_all P [] ys all = All-nil P
front_all P (x ∷ xs) ys all = All-cons P x xs (All-head P x (xs ++ ys) all) (front_all P xs ys (All-tail P x (xs ++ ys) all))

pub end_all : {X : Type 0} (P : X → Type 0) (xs ys : List X) → All P (xs ++ ys) → All P ys
end_all P [] ys all = all
end_all P (x ∷ xs) ys all = end_all P xs ys (All-tail P x (xs ++ ys) all)

-- one number is read
pub reads_one : (items text next numbers rest : List ℕ) (n : ℕ) → IsOneNumber text n next → AreSmall numbers → is_after_numbers rest ≡ true →
    LeftOf items text numbers rest → LeftOf (items ++ n ∷ []) next numbers rest
reads_one items text next numbers rest n read small stops left =
    one_fewer items text next left.more numbers rest n read (end_all (λ k. k < 2 ^ 32) items left.more (subst AreSmall left.numbers_are small)) stops left.numbers_are left.text_is

none_left : (items text more numbers rest : List ℕ) → ((m : ℕ) (tail : List ℕ) → m < 2 ^ 32 → is_after_number tail ≡ true → text ≡ label_and_number (codes " ") m ++ tail → ⊥) →
    AreSmall more → is_after_numbers rest ≡ true → numbers ≡ items ++ more → text ≡ after_spaces more ++ rest → (items ≡ numbers) × (text ≡ rest)
none_left items text [] numbers rest none small stops are is = (sym (are ∙ append-nil items), is)
none_left items text (m ∷ more) numbers rest none small stops are is =
    absurd (none m (after_spaces more ++ rest) (All-head (λ k. k < 2 ^ 32) m more small) (stops_spaced more rest stops) (is ∙ append_assoc (label_and_number (codes " ") m) (after_spaces more) rest))

-- all numbers were read
pub reads_all : (items text numbers rest : List ℕ) → ((m : ℕ) (tail : List ℕ) → m < 2 ^ 32 → is_after_number tail ≡ true → text ≡ label_and_number (codes " ") m ++ tail → ⊥) →
    AreSmall numbers → is_after_numbers rest ≡ true → LeftOf items text numbers rest → (items ≡ numbers) × (text ≡ rest)
reads_all items text numbers rest none small stops left =
    none_left items text left.more numbers rest none (end_all (λ k. k < 2 ^ 32) items left.more (subst AreSmall left.numbers_are small)) stops left.numbers_are left.text_is

-- the text of the numbers so far and one more
pub one_more_spaced : (text items after rest next : List ℕ) (n : ℕ) → text ≡ after_spaces items ++ rest → rest ≡ label_and_number (codes " ") n ++ next → after ≡ items ++ n ∷ [] → text ≡ after_spaces after ++ next
one_more_spaced text items after rest next n before read are =
    let whole : after_spaces (items ++ n ∷ []) ≡ after_spaces items ++ label_and_number (codes " ") n =
    flat_map-append (label_and_number (codes " ")) items (n ∷ []) ∙ ap (λ l. after_spaces items ++ l) (append-nil (label_and_number (codes " ") n)) in
    before ∙ (ap (λ l. after_spaces items ++ l) read ∙ (sym (append_assoc (after_spaces items) (label_and_number (codes " ") n) next) ∙ ap (λ l. l ++ next) (sym (ap after_spaces are ∙ whole))))
