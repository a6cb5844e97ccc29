-- Optional indices as numbers.
use Rattle.std.specs.Prelude.{ℕ, zero, suc, Option, None, Some}

-- The optional index that a number encodes: none for 0, else one less than the number.
abbrev pub index_of : ℕ → Option ℕ
index_of zero = None
index_of (suc n) = Some n

-- The number that encodes an optional index.
abbrev pub code_of_index : Option ℕ → ℕ
code_of_index None = zero
code_of_index (Some n) = suc n
