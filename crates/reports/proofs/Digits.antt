-- The number of digits of a number.
use Rattle.std.proofs.Common.{◌≡◌, ℕ, ◌+◌, ◌*◌, ◌/◌, ◌%◌, ◌<◌, ◌≤◌, ◌^◌, Bool, true, false, nat_lt, List, length, decimal, refl, sym, ap, ◌∙◌, arith, append_assoc, length-append, lit<, [], ◌∷◌, ◌++◌}
use Rattle.std.proofs.lemmas.Bool.Decides.{nat_tests}
use Rattle.std.proofs.lemmas.List.{same_from_push}
use Rattle.std.proofs.lemmas.Fmt.{length-decimal-le, decimal_step, decimal_digit}

pub digits_short : (n : ℕ) → n < 2 ^ 64 → length (decimal n) ≤ 20
digits_short n h = length-decimal-le 20 n (lit< tt) (omega arith) h

pub digits_step : (n : ℕ) → 10 ≤ n → n < 2 ^ 64 → length (decimal n) ≡ length (decimal (n / 10)) + 1
digits_step n l h = ap length (decimal_step n l h) ∙ length-append (decimal (n / 10)) ((48 + n % 10) ∷ [])

pub digits_one : (n : ℕ) → n < 10 → length (decimal n) ≡ 1
digits_one n h = ap length (decimal_digit n h)

pub decade_first : (x : ℕ) → 0 ≤ x → x < 10 → 1 + length (decimal x) ≡ 2
decade_first x l h = omega (arith, digits_one x h)

-- Numbers with one more digit.
pub decade_next : (low high width : ℕ) → 10 * low ≤ high → 10 ≤ high → high < 2 ^ 32 → ((x : ℕ) → low ≤ x → x < high → 1 + length (decimal x) ≡ width) →
    (x : ℕ) → high ≤ x → x < high * 10 → 1 + length (decimal x) ≡ width + 1
decade_next low high width l t few is x above below =
    let rest : 1 + length (decimal (x / 10)) ≡ width = is (x / 10) (omega (arith, l, above)) (omega (arith, below)) in
    omega (arith, rest, digits_step x (omega (arith, t, above)) (omega (arith, below, few)))

-- The digits of a number of two, three and four digits.
pub two_digits : (n : ℕ) → 10 ≤ n → n < 100 → decimal n ≡ (48 + n / 10 % 10) ∷ (48 + n % 10) ∷ []
two_digits n least most =
    let tens : n / 10 ≡ n / 10 % 10 = omega (arith, least, most) in
    decimal_step n least (omega (arith, most)) ∙ (λ i. (decimal_digit (n / 10) (omega (arith, most)) ∙ ap (λ d. (48 + d) ∷ []) tens) i ++ (48 + n % 10) ∷ [])

pub three_digits : (n : ℕ) → 100 ≤ n → n < 1000 → decimal n ≡ (48 + n / 100 % 10) ∷ (48 + n / 10 % 10) ∷ (48 + n % 10) ∷ []
three_digits n least most =
    let by : n / 10 / 10 ≡ n / 100 = omega arith in
    decimal_step n (omega (arith, least)) (omega (arith, most)) ∙ ap (λ ds. ds ++ (48 + n % 10) ∷ []) (two_digits (n / 10) (omega (arith, least)) (omega (arith, most)))
    ∙ ap (λ h. (48 + h % 10) ∷ (48 + n / 10 % 10) ∷ (48 + n % 10) ∷ []) by

pub four_digits : (n : ℕ) → 1000 ≤ n → n < 10000 → decimal n ≡ (48 + n / 1000 % 10) ∷ (48 + n / 100 % 10) ∷ (48 + n / 10 % 10) ∷ (48 + n % 10) ∷ []
four_digits n least most =
    let hundreds : n / 10 / 10 ≡ n / 100 = omega arith in
    let thousands : n / 10 / 100 ≡ n / 1000 = omega arith in
    decimal_step n (omega (arith, least)) (omega (arith, most)) ∙ ap (λ ds. ds ++ (48 + n % 10) ∷ []) (three_digits (n / 10) (omega (arith, least)) (omega (arith, most)))
    ∙ (λ i. (48 + thousands i % 10) ∷ (48 + hundreds i % 10) ∷ (48 + n / 10 % 10) ∷ (48 + n % 10) ∷ [])

next_by : (b : Bool) (before front : List ℕ) (digit n : ℕ) → nat_lt n 10 ≡ b → before ++ decimal n ≡ front ++ digit ∷ [] → digit < 57 → n + 1 < 2 ^ 64 → front ++ (digit + 1) ∷ [] ≡ before ++ decimal (n + 1)
next_by true before front digit n one is small fits =
    let few : n < 10 = grind (arith, nat_tests) in
    let same = same_from_push before front (48 + n) digit (ap (λ ds. before ++ ds) (sym (decimal_digit n few)) ∙ is) in
    let next : decimal (n + 1) ≡ (digit + 1) ∷ [] = decimal_digit (n + 1) (omega (arith, same.1, small)) ∙ ap (λ d. d ∷ []) (omega (arith, same.1)) in
    (λ i. sym same.0 i ++ sym next i)
next_by false before front digit n more is small fits =
    let many : 10 ≤ n = grind (arith, nat_tests) in
    let same = same_from_push (before ++ decimal (n / 10)) front (48 + n % 10) digit (append_assoc before (decimal (n / 10)) ((48 + n % 10) ∷ []) ∙ (ap (λ ds. before ++ ds) (sym (decimal_step n many (omega (arith, fits)))) ∙ is)) in
    let tens : (n + 1) / 10 ≡ n / 10 = omega (arith, same.1, small) in
    let ones : 48 + (n + 1) % 10 ≡ digit + 1 = omega (arith, same.1, small) in
    let next : decimal (n + 1) ≡ decimal (n / 10) ++ (digit + 1) ∷ [] = decimal_step (n + 1) (omega (arith, many)) fits ∙ (λ i. decimal (tens i) ++ ones i ∷ []) in
    ap (λ l. l ++ (digit + 1) ∷ []) (sym same.0) ∙ append_assoc before (decimal (n / 10)) ((digit + 1) ∷ []) ∙ ap (λ ds. before ++ ds) (sym next)

-- The text after the next number, if only its last digit changes.
pub next_digits : (before front : List ℕ) (digit n : ℕ) → before ++ decimal n ≡ front ++ digit ∷ [] → digit < 57 → n + 1 < 2 ^ 64 → front ++ (digit + 1) ∷ [] ≡ before ++ decimal (n + 1)
next_digits before front digit n is small fits = next_by (nat_lt n 10) before front digit n refl is small fits
