-- The text format of witnesses (this project's profile).
use Rattle.std.specs.Prelude.{◌≡◌, ◌+◌, ◌<◌, ◌≤◌, ◌^◌, ◌⊎◌, ℕ, suc, Bool, true, false, List, [], ◌∷◌, ◌++◌, Option, Some, None, codes, decimal, if◌then◌else◌, length, map, option_map, take}
use Rattle.std.specs.Global.{Vec}
use Rattle.std.specs.List.{All, filter}
use Rattle.event_files.specs.EventFile.{is_word, line_words, pieces_at}
use Rattle.event_files.specs.declared.refused.FileRefused.{FileRefused}
use Rattle.event_files.specs.declared.refused.FileRefused.TheVariants.{Line, NoMemory}

-- The words are these numbers, which fit in 32 bits.
abbrev pub AreNumerals : List ℕ → List (List ℕ) → Type 0
AreNumerals numbers words = All (λ n. n < 2 ^ 32) numbers × (words ≡ map decimal numbers)

-- The words are the keyword and then these numbers.
abbrev pub IsKeyed : List ℕ → List ℕ → List (List ℕ) → Type 0
IsKeyed keyword numbers [] = ⊥
IsKeyed keyword numbers (word ∷ more) = (word ≡ keyword) × AreNumerals numbers more

-- The words are `reach` and the 2 to 8 places of the instance.
abbrev pub IsReach : List ℕ → List (List ℕ) → Type 0
IsReach instance words =
    IsKeyed (codes "reach") instance words × (2 ≤ length instance) × (length instance ≤ 8)

-- The words are `order` and the places of the list.
abbrev pub IsOrder : List ℕ → List (List ℕ) → Type 0
IsOrder order words = IsKeyed (codes "order") order words

-- The line has a word.
abbrev pub has_words : List (List ℕ) → Bool
has_words [] = false
has_words (word ∷ more) = true

-- The words of each line that has some.
abbrev pub words_of_lines : List (List ℕ) → List (List (List ℕ))
words_of_lines lines = filter has_words (map line_words lines)

-- These are the two lines of the witness.
abbrev pub AreWitnessLines : List ℕ → List ℕ → List (List (List ℕ)) → Type 0
AreWitnessLines instance order (first ∷ second ∷ []) = IsReach instance first × IsOrder order second
AreWitnessLines instance order _ = ⊥

-- These are the first lines of a witness, or all of them.
abbrev pub AreFirstWitnessLines : List (List (List ℕ)) → Type 0
AreFirstWitnessLines [] = Unit {0}
AreFirstWitnessLines (first ∷ []) = (instance : List ℕ) × IsReach instance first
AreFirstWitnessLines (first ∷ second ∷ []) =
    (instance order : List ℕ) × IsReach instance first × IsOrder order second
AreFirstWitnessLines (first ∷ second ∷ third ∷ more) = ⊥

-- The file has, beside lines without words, exactly the two lines of the witness.
abbrev pub IsWitnessOf : List ℕ → List ℕ → List ℕ → Type 0
IsWitnessOf instance order file =
    AreWitnessLines instance order (words_of_lines (pieces_at 10 file))

-- The number of lines of a file that line feeds cut into these pieces: an empty last one is no
-- line.
abbrev pub line_count : List (List ℕ) → ℕ
line_count [] = 0
line_count (piece ∷ []) = if is_word piece then 1 else 0
line_count (piece ∷ next ∷ more) = suc (line_count (next ∷ more))

-- The line with this number, counted from 1, is the first that no witness file has there.
pub record IsFirstWrong (lines : List (List ℕ)) (number : ℕ) : Type 0 where
  pub index : ℕ
  pub within : index < length lines
  pub counts : number ≡ index + 1
  pub before : AreFirstWitnessLines (words_of_lines (take index lines))
  pub wrong : AreFirstWitnessLines (words_of_lines (take (index + 1) lines)) → ⊥

-- A line is missing at the end. The number is one more than the number of lines.
pub record EndsEarly (lines : List (List ℕ)) (number : ℕ) : Type 0 where
  pub counts : number ≡ line_count lines + 1
  pub before : AreFirstWitnessLines (words_of_lines lines)
  pub missing : (instance order : List ℕ) → AreWitnessLines instance order (words_of_lines lines) →
      ⊥

-- The refusal of a witness file with these lines is right.
abbrev pub RefusesWitness : List (List ℕ) → FileRefused → Type 0
RefusesWitness lines (Line number) = IsFirstWrong lines number ⊎ EndsEarly lines number
RefusesWitness lines NoMemory = Unit {0}

-- The places in the list, if there is one.
abbrev pub list_places : Option (Vec ℕ) → Option (List ℕ)
list_places order = option_map (λ places. places.items) order

-- What is read of a witness: the instance and the list, if their lines came.
abbrev pub WitnessReading : Type 0
WitnessReading = Option (List ℕ) × Option (List ℕ)

-- Exactly this is read of the lines.
abbrev pub IsReadOf : List (List (List ℕ)) → WitnessReading → Type 0
IsReadOf lines (None, None) = lines ≡ []
IsReadOf lines (None, Some order) = ⊥
IsReadOf lines (Some instance, None) =
    (words : List (List ℕ)) × (lines ≡ words ∷ []) × IsReach instance words
IsReadOf lines (Some instance, Some order) = AreWitnessLines instance order lines

-- The lines, and then the words of one more line, if it has any.
abbrev pub and_line : List (List (List ℕ)) → List (List ℕ) → List (List (List ℕ))
and_line lines words = lines ++ filter has_words (words ∷ [])

-- A line with these words is read on.
abbrev pub ReadsOn : List (List ℕ) → WitnessReading → WitnessReading → Type 0
ReadsOn words old new =
    (lines : List (List (List ℕ))) → IsReadOf lines old → IsReadOf (and_line lines words) new

-- No witness begins with the lines that were read and one with these words.
abbrev pub IsWrongNext : List (List ℕ) → WitnessReading → Type 0
IsWrongNext words old =
    (lines : List (List (List ℕ))) → IsReadOf lines old →
    AreFirstWitnessLines (and_line lines words) → ⊥
