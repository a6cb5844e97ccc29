-- The lines of explained cycles, one by one.
use Rattle.std.specs.Prelude.{◌≡◌, ℕ, ◌≤◌, Bool, List, [], ◌∷◌, length}
use Rattle.trace_model.specs.declared.refutations.Derived.{Derived}
use Rattle.event_files.specs.NumberedText.{AreSmall}
use Rattle.event_files.specs.Refutations.{conclusion_line, entry_line}
use Rattle.event_files.specs.ExplainedText.{StatedMember, cycle_line, entry_numbers, head_line, head_numbers, stated_member_line, member_numbers, stated_member, stated_witness_line}
use Rattle.event_files.specs.declared.explanations.ReportHead.{ReportHead}
use Rattle.event_files.specs.declared.explained_lines.ExplainedLine.{ExplainedLine}
use Rattle.event_files.specs.declared.explained_lines.ExplainedLine.TheVariants.{Head, Row, Member, Places, Entry, Conclusion}

-- A line: the first one of a report, that of a cycle with its verdict, that of a member, the places
-- of a witness, an entry of a derivation, or the conclusion about a thread and a place.
pub data StatedLine : Type 0 where
  head : ReportHead → StatedLine
  row : List ℕ → Bool → StatedLine
  member : StatedMember → StatedLine
  places : List ℕ → StatedLine
  entry : Derived → StatedLine
  conclusion : ℕ → ℕ → StatedLine

-- The line that was read.
abbrev pub stated_line : ExplainedLine → StatedLine
stated_line (Head h) = head h
stated_line (Row cycle confirmed) = row cycle confirmed
stated_line (Member m) = member (stated_member m)
stated_line (Places order) = places order.items
stated_line (Entry d) = entry d
stated_line (Conclusion thread place) = conclusion thread place

-- The text of a line.
abbrev pub line_text : StatedLine → List ℕ
line_text (head h) = head_line h
line_text (row cycle confirmed) = cycle_line cycle confirmed
line_text (member m) = stated_member_line m
line_text (places order) = stated_witness_line order
line_text (entry d) = entry_line d
line_text (conclusion thread place) = conclusion_line thread place

-- The numbers of a line.
abbrev pub line_numbers : StatedLine → List ℕ
line_numbers (head h) = head_numbers h
line_numbers (row cycle confirmed) = cycle
line_numbers (member m) = member_numbers m
line_numbers (places order) = order
line_numbers (entry d) = entry_numbers d
line_numbers (conclusion thread place) = thread ∷ place ∷ []

-- The line of a cycle has 2 to 8 numbers.
abbrev pub IsSized : StatedLine → Type 0
IsSized (row cycle confirmed) = (2 ≤ length cycle) × (length cycle ≤ 8)
IsSized _ = Unit {0}

-- A file may have the line.
pub record IsStatedLine (l : StatedLine) : Type 0 where
  pub small : AreSmall (line_numbers l)
  pub sized : IsSized l

-- The text is that of the line, which a file may have.
abbrev pub IsTextOfLine : List ℕ → StatedLine → Type 0
IsTextOfLine text l = IsStatedLine l × (text ≡ line_text l)
