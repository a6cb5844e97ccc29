-- Files of explained cycles, and why one is refused (this project's profile).
use Rattle.std.specs.Prelude.{◌≡◌, ℕ, ◌+◌, ◌⊎◌, Bool, true, false, not, ◌&&◌, ◌||◌, List, ◌++◌, Some, codes, nat_eq, slice_get, take}
use Rattle.std.specs.List.{filter, starts_with}
use Rattle.event_files.specs.EventFile.{line_words, pieces_at}
use Rattle.event_files.specs.WitnessFile.{has_words, line_count}
use Rattle.event_files.specs.ExplainedText.{Contents, IsContents, contents_of, file_lines}
use Rattle.event_files.specs.declared.explanations.ExplainedFile.{ExplainedFile}
use Rattle.event_files.specs.declared.refused.ExplainedRefused.{ExplainedRefused}
use Rattle.event_files.specs.declared.refused.ExplainedRefused.TheVariants.{Line, Merged, NoMemory}

-- The line begins with four spaces, as those do that agents add to a report.
abbrev pub is_added : List ℕ → Bool
is_added line = starts_with nat_eq line (codes "    ")

-- The line says that an agent merged cycles of a report.
abbrev pub is_merge_mark : List ℕ → Bool
is_merge_mark line = starts_with nat_eq line (codes "    and ")

-- The line is not skipped. A line without words, a comment and an added line are skipped, but never
-- a merge mark.
abbrev pub is_kept : List ℕ → Bool
is_kept line = is_merge_mark line || (has_words (line_words line) && not (is_added line))

-- The lines that are not skipped.
abbrev pub unskipped_lines : List (List ℕ) → List (List ℕ)
unskipped_lines lines = filter is_kept lines

-- The lines are those of a file with these contents.
abbrev pub IsTextOf : Contents → List (List ℕ) → Type 0
IsTextOf f lines = IsContents f × (lines ≡ file_lines f)

-- No other contents have these lines.
abbrev pub IsOnlyTextOf : Contents → List (List ℕ) → Type 0
IsOnlyTextOf f lines = (other : Contents) → IsTextOf other lines → other ≡ f

-- The lines of the file that are not skipped are exactly those of the explained cycles.
abbrev pub IsExplainedText : ExplainedFile → List ℕ → Type 0
IsExplainedText f file = IsTextOf (contents_of f) (unskipped_lines (pieces_at 10 file))

-- No other contents have the lines of the file that are not skipped.
abbrev pub IsOnlyExplainedText : ExplainedFile → List ℕ → Type 0
IsOnlyExplainedText f file = IsOnlyTextOf (contents_of f) (unskipped_lines (pieces_at 10 file))

-- These are the first lines of a file, or all of them.
abbrev pub AreFirstFileLines : List (List ℕ) → Type 0
AreFirstFileLines lines =
    (f : Contents) × (rest : List (List ℕ)) × IsContents f × (file_lines f ≡ lines ++ rest)

-- The line with this number, counted from 1, is the first that no file has there.
pub record IsFirstWrong (lines : List (List ℕ)) (number : ℕ) : Type 0 where
  pub index : ℕ
  pub counts : number ≡ index + 1
  pub line : List ℕ
  pub at : slice_get lines index ≡ Some line
  pub unmarked : is_merge_mark line ≡ false
  pub before : AreFirstFileLines (unskipped_lines (take index lines))
  pub wrong : AreFirstFileLines (unskipped_lines (take (index + 1) lines)) → ⊥

-- A line is missing at the end. The number is one more than the number of lines.
pub record EndsEarly (lines : List (List ℕ)) (number : ℕ) : Type 0 where
  pub counts : number ≡ line_count lines + 1
  pub before : AreFirstFileLines (unskipped_lines lines)
  pub missing : (f : Contents) → IsTextOf f (unskipped_lines lines) → ⊥

-- The line with this number, counted from 1, says that cycles were merged. All before it is right.
pub record IsMerged (lines : List (List ℕ)) (number : ℕ) : Type 0 where
  pub index : ℕ
  pub counts : number ≡ index + 1
  pub line : List ℕ
  pub at : slice_get lines index ≡ Some line
  pub marked : is_merge_mark line ≡ true
  pub before : AreFirstFileLines (unskipped_lines (take index lines))

-- The refusal of a file with these lines is right.
abbrev pub RefusesLines : List (List ℕ) → ExplainedRefused → Type 0
RefusesLines lines (Line number) = IsFirstWrong lines number ⊎ EndsEarly lines number
RefusesLines lines (Merged number) = IsMerged lines number
RefusesLines lines NoMemory = Unit {0}

-- The refusal of the file is right.
abbrev pub RefusesExplained : List ℕ → ExplainedRefused → Type 0
RefusesExplained file refused = RefusesLines (pieces_at 10 file) refused
