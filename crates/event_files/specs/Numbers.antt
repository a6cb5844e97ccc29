-- Decimal numbers: texts of digits and their values.
use Rattle.std.specs.Prelude.{◌≡◌, ◌<◌, ◌≤◌, ◌^◌, ℕ, List}
use Rattle.std.specs.Str.Parse.{AllDigits, digits_value}

-- The text has only digits, its value is n, and n fits in 32 bits.
abbrev pub IsValueOf : List ℕ → ℕ → Type 0
IsValueOf digits n = (AllDigits 10 digits × (digits_value 10 digits ≡ n)) × (n < 2 ^ 32)

-- If the text has only digits, then its value does not fit in 32 bits.
abbrev pub IsTooLarge : List ℕ → Type 0
IsTooLarge digits = AllDigits 10 digits → 2 ^ 32 ≤ digits_value 10 digits
