-- Texts in which numbers stand between literals.
use Rattle.std.specs.Prelude.{ℕ, ◌<◌, ◌^◌, Bool, true, List, [], ◌∷◌, ◌&&◌, ◌==◌, if◌then◌else◌, codes}
use Rattle.std.specs.List.{All, flat_map}
use Rattle.event_files.specs.EventFile.{is_no_digit}
use Rattle.event_files.specs.Refutations.{label_and_number}

-- The text does not begin with a digit.
abbrev pub is_after_number : List ℕ → Bool
is_after_number [] = true
is_after_number (byte ∷ more) = is_no_digit byte

-- The text after its first byte, if that is a space.
abbrev pub after_space : List ℕ → List ℕ
after_space [] = []
after_space (byte ∷ more) = if byte == 32 then more else []

-- The text begins neither with a digit nor with a space and a digit.
abbrev pub is_after_numbers : List ℕ → Bool
is_after_numbers text = is_after_number text && is_after_number (after_space text)

-- Each number after one space.
abbrev pub after_spaces : List ℕ → List ℕ
after_spaces numbers = flat_map (label_and_number (codes " ")) numbers

-- The numbers fit in 32 bits.
abbrev pub AreSmall : List ℕ → Type 0
AreSmall numbers = All (λ n. n < 2 ^ 32) numbers
