-- The digits at the beginning of a text.
use Rattle.std.proofs.Common.{◌≡◌, ℕ, zero, suc, ◌+◌, ◌<◌, ◌≤◌, ◌^◌, cond, not, true, false, List, [], ◌∷◌, ◌++◌, length, min, take, drop, get_or, decimal, refl, lit<, sym, ap, ◌∙◌, arith, length-take}
use Rattle.std.specs.Char.{is_ascii_digit}
use Rattle.std.specs.List.{position_or_len}
use Rattle.std.specs.Str.Parse.{AllDigits, digits_value}
use Rattle.std.proofs.lemmas.Fmt.{decimal-digits_value, decimal_is_IsNumeral, decimal_nonempty, length-decimal-le}
use Rattle.std.proofs.lemmas.List.{drop_more, get_or-take, take-append-drop}
use Rattle.std.proofs.lemmas.List.Sums.{prefix_len-le-length}
use Rattle.std.proofs.lemmas.Str.Parse.{digit_from_value, digits_value_short, numerals_by_value, tells_digits}
use Rattle.event_files.specs.EventFile.{is_no_digit}
use Rattle.event_files.specs.NumberedText.{is_after_number}
use Rattle.event_files.proofs.Numerals.{zero_alone}
use Rattle.event_files.proofs.NumberedTexts.{counted_digits, digit_is, digits_before, number_begins, BeginsWith}

-- a text whose first i bytes are digits has at least i digits at its beginning
pub digits_up_to : (text : List ℕ) (i : ℕ) → i ≤ length text → AllDigits 10 (take i text) → i ≤ position_or_len is_no_digit text
digits_up_to text zero within all = omega arith
digits_up_to [] (suc i) within all = absurd (omega arith)
digits_up_to (d ∷ text) (suc i) within all =
    let r = digit_from_value d all.0 in
    let more = digits_up_to text i (omega arith) all.1 in
    let here : position_or_len is_no_digit (d ∷ text) ≡ 1 + position_or_len is_no_digit text =
    ap (λ b. cond (not (not b)) (1 + position_or_len is_no_digit text) 0) (digit_is d (omega (arith, r)) (omega (arith, r))) in
    omega (arith, here, more)

-- it has exactly i if no digit follows
pub digits_end : (text : List ℕ) (i : ℕ) → i ≤ length text → AllDigits 10 (take i text) → is_after_number (drop i text) ≡ true → i ≡ position_or_len is_no_digit text
digits_end text i within all stops =
    let counted = digits_before (take i text) (drop i text) all stops in
    omega (arith, ap (position_or_len is_no_digit) (take-append-drop i text), counted, length-take i text)

pub ends_at_other : (text : List ℕ) (i : ℕ) → i < length text → AllDigits 10 (take i text) → is_ascii_digit (get_or text i 0) ≡ false → i ≡ position_or_len is_no_digit text
ends_at_other text i within all other =
    digits_end text i (omega arith) all (ap is_after_number (drop_more text i 0 within) ∙ ap not other)

-- the first ten bytes, or all of fewer, are digits
pub all_counted : (text : List ℕ) (i most : ℕ) → most ≡ min (length text) 10 → i ≤ most → most ≤ i → AllDigits 10 (take i text) → i ≡ min 10 (position_or_len is_no_digit text)
all_counted text i most is few all digits =
    let least = digits_up_to text i (omega (arith, is)) digits in
    let most : position_or_len is_no_digit text ≤ length text = prefix_len-le-length (λ b. not (is_no_digit b)) text in
    omega (arith, is, least, most)

-- the value of fewer than ten digits
pub few_digits : (text : List ℕ) (i : ℕ) → i < 10 → AllDigits 10 (take i text) → digits_value 10 (take i text) < 10 ^ 9
few_digits text i few all = digits_value_short (numerals_by_value (AllDigits 10) tells_digits) (take i text) 9 all (omega (arith, length-take i text))

-- a text that begins with a number has the number's digits at its beginning
pub led_by : (text : List ℕ) (n : ℕ) (rest : List ℕ) (count : ℕ) → n < 2 ^ 32 → is_after_number rest ≡ true → text ≡ decimal n ++ rest → count ≡ min 10 (position_or_len is_no_digit text) → BeginsWith text n rest count × (count ≡ length (decimal n))
led_by text n rest count small stops is counts =
    let all : position_or_len is_no_digit text ≡ length (decimal n) = ap (position_or_len is_no_digit) is ∙ counted_digits n rest small stops in
    let short : length (decimal n) ≤ 10 = length-decimal-le 10 n (lit< tt) (omega arith) (omega (arith, small)) in
    (number_begins text n rest count small stops is (omega (arith, counts, all, short)), omega (arith, counts, all, short))

-- the value of these digits
pub value_led_by : (text : List ℕ) (n : ℕ) (rest : List ℕ) (count : ℕ) → n < 2 ^ 32 → is_after_number rest ≡ true → text ≡ decimal n ++ rest → count ≡ min 10 (position_or_len is_no_digit text) → digits_value 10 (take count text) ≡ n
value_led_by text n rest count small stops is counts =
    ap (digits_value 10) (led_by text n rest count small stops is counts).0.digits ∙ (decimal_is_IsNumeral n (omega arith)).1

-- a text that begins with digits, without a leading zero, begins with the number of this value
pub number_of_digits : (text : List ℕ) (count : ℕ) → 0 < count → count ≤ length text → (get_or text 0 0 ≡ 48 → count ≤ 1) → AllDigits 10 (take count text) → digits_value 10 (take count text) < 2 ^ 32 →
    text ≡ decimal (digits_value 10 (take count text)) ++ drop count text
number_of_digits text count some within first all small =
    let digits = take count text in
    let long = length-take count text in
    let is = decimal-digits_value (numerals_by_value (AllDigits 10) tells_digits) digits all (omega (arith, long)) (λ is. omega (arith, long, first (sym (get_or-take count text 0 0 some) ∙ is))) (omega (arith, small)) in
    sym (take-append-drop count text) ∙ ap (λ l. l ++ drop count text) (sym is)

first_of : (front rest : List ℕ) → 0 < length front → get_or (front ++ rest) 0 0 ≡ get_or front 0 0
first_of [] rest some = absurd (omega arith)
first_of (byte ∷ front) rest some = refl

-- a number whose text begins with a zero digit has one digit
pub first_led_by : (text : List ℕ) (n : ℕ) (rest : List ℕ) → n < 2 ^ 32 → text ≡ decimal n ++ rest → get_or text 0 0 ≡ 48 → length (decimal n) ≡ 1
first_led_by text n rest small is first =
    (zero_alone n small (sym (first_of (decimal n) rest (decimal_nonempty n (omega arith))) ∙ (ap (λ l. get_or l 0 0) (sym is) ∙ first))).1
