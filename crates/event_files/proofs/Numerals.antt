-- Numbers in decimal: texts of digits and their values.
use Rattle.std.proofs.Common.{◌≡◌, ℕ, zero, suc, ◌+◌, ◌*◌, ◌<◌, ◌≤◌, ◌≢◌, ◌^◌, false, List, [], ◌∷◌, length, get_or, take, Option, Some, None, IfSome, IfNone, decimal, sym, ap, ◌∙◌, arith}
use Rattle.std.specs.Char.{is_ascii_digit, digit_value}
use Rattle.std.specs.Str.Parse.{AllDigits, digits_value}
use Rattle.std.proofs.lemmas.Bool.Decides.{nat_tests}
use Rattle.std.proofs.lemmas.Fmt.{decimal-digits_value, decimal_digit, decimal_is_IsNumeral, first_decimal}
use Rattle.std.proofs.lemmas.Int.Digits.{digits_value_more}
use Rattle.std.proofs.lemmas.Str.Parse.{digit_at, digits_value-take-le, numerals_by_value, tells_digits}
use Rattle.event_files.specs.Numbers.{IsValueOf, IsTooLarge}

-- each byte of a text of digits is a digit
pub no_other_byte : (text : List ℕ) (i : ℕ) → i < length text → is_ascii_digit (get_or text i 0) ≡ false →
    AllDigits 10 text → ⊥
no_other_byte text i inside other all = let here = digit_at text i all inside in grind (arith, nat_tests)

-- the value of the first digits and the next one is at most the whole value
pub beginning_is_no_more : (text : List ℕ) (i : ℕ) → i < length text →
    digits_value 10 (take i text) * 10 + digit_value (get_or text i 0) ≤ digits_value 10 text
beginning_is_no_more text i inside =
    omega (arith, digits_value_more 10 text i inside, digits_value-take-le 10 text (i + 1) (omega arith))

-- a text that is a single zero digit is the numeral of zero
pub zero_is : (text : List ℕ) → get_or text 0 0 ≡ 48 → length text ≡ 1 → text ≡ decimal 0
zero_is [] first one = absurd (omega arith)
zero_is (byte ∷ []) first one = (λ i. first i ∷ []) ∙ sym (decimal_digit 0 (omega arith))
zero_is (byte ∷ other ∷ more) first one = absurd (omega arith)

-- a number whose numeral begins with a zero digit is zero
pub zero_alone : (n : ℕ) → n < 2 ^ 32 → get_or (decimal n) 0 0 ≡ 48 → (n ≡ 0) × (length (decimal n) ≡ 1)
zero_alone zero small first = (λ i. 0, ap length (decimal_digit 0 (omega arith)))
zero_alone (suc n) small first = absurd (omega (arith, first_decimal (suc n) (omega arith) (omega arith)))

-- a text of digits is the numeral of its value if it is not empty and has no leading zero
pub text_of_its_value : (outcome : Option ℕ) (text : List ℕ) → IfSome outcome (IsValueOf text) → 0 < length text →
    get_or text 0 0 ≢ 48 → IfSome outcome (λ n. text ≡ decimal n)
text_of_its_value None text value some first = tt
text_of_its_value (Some n) text value some first =
    sym (decimal-digits_value (numerals_by_value (AllDigits 10) tells_digits) text value.0.0 some (λ is. absurd (first is)) (omega (arith, value.0.1, value.1))) ∙
    ap decimal value.0.1

-- the value of the numeral of a number is that number
pub value_of_its_text : (outcome : Option ℕ) (n : ℕ) → n < 2 ^ 32 → IfSome outcome (IsValueOf (decimal n)) →
    IfNone outcome (IsTooLarge (decimal n)) → outcome ≡ Some n
value_of_its_text None n small value large =
    let numeral = decimal_is_IsNumeral n (omega arith) in
    absurd (omega (arith, large numeral.0.1, numeral.1))
value_of_its_text (Some other) n small value large = ap Some (sym value.0.1 ∙ (decimal_is_IsNumeral n (omega arith)).1)
