-- What was read of a file of explained cycles, line by line.
use Rattle.std.specs.Prelude.{◌≡◌, ℕ, ◌<◌, ◌≤◌, Bool, true, false, not, List, [], ◌∷◌, ◌++◌, Option, Some, None, if◌then◌else◌, is_some, length, map, nat_lt, option_to_list}
use Rattle.std.specs.List.{All, flat_map}
use Rattle.trace_model.specs.declared.refutations.Derived.{Derived}
use Rattle.event_files.specs.NumberedText.{AreSmall}
use Rattle.event_files.specs.Refutations.{last_derived_place}
use Rattle.event_files.specs.ExplainedText.{Contents, IsContents, IsStatedCycle, StatedCycle, StatedEvidence, StatedMember, contents_of, entry_numbers, head_numbers, is_witness, member_numbers, refutation, stated_cycle, stated_member, step_numbers, witness}
use Rattle.event_files.specs.ExplainedFile.{AreFirstFileLines, unskipped_lines}
use Rattle.event_files.specs.ExplainedLines.{IsStatedLine, StatedLine, conclusion, entry, head, line_text, member, places, row}
use Rattle.event_files.specs.declared.explanations.ReportHead.{ReportHead}
use Rattle.event_files.specs.declared.explanations.ExplainedFile.{ExplainedFile}
use Rattle.event_files.specs.declared.explanations.ExplainedStep.{ExplainedStep}
use Rattle.event_files.specs.declared.explained_reading.Reading.{Reading}
use Rattle.event_files.specs.declared.explained_reading.State.{State}
use Rattle.event_files.specs.declared.explained_reading.State.TheVariants.{Between, Members, Unwitnessed, Steps}

-- The lines of a step.
abbrev pub step_parts : ExplainedStep → List StatedLine
step_parts step = map entry step.derivation ++
    conclusion step.thread (last_derived_place step.derivation) ∷ []

-- The lines of the evidence.
abbrev pub evidence_parts : StatedEvidence → List StatedLine
evidence_parts (witness order) = places order ∷ []
evidence_parts (refutation steps) = flat_map step_parts steps

-- The lines of a cycle.
abbrev pub cycle_parts : StatedCycle → List StatedLine
cycle_parts c =
    row c.cycle (is_witness c.evidence) ∷ (map member c.members ++ evidence_parts c.evidence)

-- The lines of a file.
abbrev pub file_parts : Contents → List StatedLine
file_parts f = map head (option_to_list f.head) ++ flat_map cycle_parts f.cycles

-- What was read of the cycle whose lines are read: nothing; some of its members; all members of a
-- confirmed one; or all members of a potential one, steps, and entries without a conclusion.
pub data StatedState : Type 0 where
  between : StatedState
  members : List ℕ → Bool → List StatedMember → StatedState
  unwitnessed : List ℕ → List StatedMember → StatedState
  steps : List ℕ → List StatedMember → List ExplainedStep → List Derived → StatedState

-- What was read: the first line, cycles with all their lines, and those of another one.
pub record StatedReading : Type 0 where
  pub head : Option ReportHead
  pub cycles : List StatedCycle
  pub state : StatedState

-- What was read of the cycle.
abbrev pub stated_state : State → StatedState
stated_state Between = between
stated_state (Members cycle confirmed ms) = members cycle confirmed (map stated_member ms.items)
stated_state (Unwitnessed cycle ms) = unwitnessed cycle (map stated_member ms.items)
stated_state (Steps cycle ms done entries) =
    steps cycle (map stated_member ms.items) done.items entries.items

-- What was read.
abbrev pub stated_reading : Reading → StatedReading
stated_reading r = record {
  head = r.head;
  cycles = map stated_cycle r.cycles.items;
  state = stated_state r.state;
}

-- The lines that were read of the cycle.
abbrev pub state_parts : StatedState → List StatedLine
state_parts between = []
state_parts (members cycle confirmed ms) = row cycle confirmed ∷ map member ms
state_parts (unwitnessed cycle ms) = row cycle true ∷ map member ms
state_parts (steps cycle ms done entries) =
    row cycle false ∷ (map member ms ++ (flat_map step_parts done ++ map entry entries))

-- The lines that were read.
abbrev pub reading_parts : StatedReading → List StatedLine
reading_parts r = map head (option_to_list r.head) ++
    (flat_map cycle_parts r.cycles ++ state_parts r.state)

-- The numbers and the members are those of a cycle.
pub record IsDraft (cycle : List ℕ) (confirmed : Bool) (ms : List StatedMember) : Type 0 where
  pub low : 2 ≤ length cycle
  pub high : length cycle ≤ 8
  pub small : AreSmall cycle
  pub placed : All (λ m. is_some m.place ≡ confirmed) ms
  pub members_small : All (λ m. AreSmall (member_numbers m)) ms

-- Members that were read are missing others or none, and the steps derive places.
abbrev pub IsState : StatedState → Type 0
IsState between = Unit {0}
IsState (members cycle confirmed ms) =
    IsDraft cycle confirmed ms × (length ms < length cycle)
IsState (unwitnessed cycle ms) = IsDraft cycle true ms × (length ms ≡ length cycle)
IsState (steps cycle ms done entries) = IsDraft cycle false ms × (length ms ≡ length cycle)
    × All (λ step. 0 < length step.derivation) done × AreSmall (flat_map step_numbers done)
    × AreSmall (flat_map entry_numbers entries)

-- The last cycle is potential.
abbrev pub ends_potential : List StatedCycle → Bool
ends_potential [] = false
ends_potential (c ∷ []) = not (is_witness c.evidence)
ends_potential (c ∷ next ∷ more) = ends_potential (next ∷ more)

-- A potential cycle may get more lines, so it is not among those with all their lines until another
-- one begins.
abbrev pub AreCompleteCycles : List StatedCycle → StatedState → Type 0
AreCompleteCycles cycles between = ends_potential cycles ≡ false
AreCompleteCycles cycles _ = Unit {0}

-- What was read is a beginning of a file.
pub record IsReading (r : StatedReading) : Type 0 where
  pub head_small : All (λ h. AreSmall (head_numbers h)) (option_to_list r.head)
  pub cycles : All IsStatedCycle r.cycles
  pub settled : AreCompleteCycles r.cycles r.state
  pub state : IsState r.state

-- The line is read after the others.
abbrev pub ReadsStatedLine : StatedReading → StatedLine → StatedReading → Type 0
ReadsStatedLine old line new = IsReading old → IsStatedLine line →
    IsReading new × (reading_parts new ≡ reading_parts old ++ line ∷ [])

-- No file begins with the lines that were read and this one.
abbrev pub IsWrongNext : StatedReading → StatedLine → Type 0
IsWrongNext old line = (f : Contents) (rest : List StatedLine) → IsReading old →
    IsContents f → file_parts f ≡ reading_parts old ++ line ∷ rest → ⊥

-- The line is read, unless no file has it there.
abbrev pub IsNextStatedLine : StatedReading → StatedLine → Option Reading → Type 0
IsNextStatedLine old line None = IsWrongNext old line
IsNextStatedLine old line (Some new) = ReadsStatedLine old line (stated_reading new)

-- The state of a cycle with these members, of which some or none are missing.
abbrev pub cycle_state : List ℕ → Bool → List StatedMember → StatedState
cycle_state cycle confirmed ms = if nat_lt (length ms) (length cycle)
    then members cycle confirmed ms
    else (if confirmed then unwitnessed cycle ms else steps cycle ms [] [])

-- The cycle may end here.
abbrev pub may_end : StatedState → Bool
may_end (steps cycle ms done []) = true
may_end between = true
may_end _ = false

-- The cycles, and the one that was read.
abbrev pub with_state : List StatedCycle → StatedState → List StatedCycle
with_state cycles (steps cycle ms done entries) =
    cycles ++ record { cycle = cycle; members = ms; evidence = refutation done } ∷ []
with_state cycles _ = cycles

-- The cycles with the one that was read, if it may end.
abbrev pub AreEnded : List StatedCycle → StatedState → Option (List StatedCycle) → Type 0
AreEnded cycles state None = may_end state ≡ false
AreEnded cycles state (Some all) = (may_end state ≡ true) × (all ≡ with_state cycles state)

-- The contents are all that was read, or the lines of no file are.
abbrev pub IsEnd : StatedReading → Option ExplainedFile → Type 0
IsEnd r None = (f : Contents) → IsReading r → IsContents f → file_parts f ≡ reading_parts r → ⊥
IsEnd r (Some file) = IsReading r →
    IsContents (contents_of file) × (file_parts (contents_of file) ≡ reading_parts r)

-- The second list is a beginning of the first.
abbrev pub AreFirstStatedLines : List StatedLine → List StatedLine → Type 0
AreFirstStatedLines parts first = (more : List StatedLine) × (parts ≡ first ++ more)

-- Exactly this was read of the lines. No other lines that a file may have begin so.
pub record IsReadOf (lines : List (List ℕ)) (r : StatedReading) : Type 0 where
  pub reading : IsReading r
  pub are : lines ≡ map line_text (reading_parts r)
  pub only : (parts : List StatedLine) (rest : List (List ℕ)) → All IsStatedLine parts →
      map line_text parts ≡ lines ++ rest → AreFirstStatedLines parts (reading_parts r)

-- The line is read on, or no file begins with it after the others.
abbrev pub ReadsLine : List ℕ → StatedReading → Option Reading → Type 0
ReadsLine line old None = (lines : List (List ℕ)) → IsReadOf lines old →
    AreFirstFileLines (lines ++ unskipped_lines (line ∷ [])) → ⊥
ReadsLine line old (Some new) = (lines : List (List ℕ)) → IsReadOf lines old →
    IsReadOf (lines ++ unskipped_lines (line ∷ [])) (stated_reading new)
