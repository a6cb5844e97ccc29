-- The text of explained cycles (this project's profile).
use Rattle.std.specs.Prelude.{◌≡◌, ℕ, ◌<◌, ◌≤◌, Bool, true, false, List, [], ◌∷◌, ◌++◌, Option, Some, None, codes, is_some, length, map, option_to_list}
use Rattle.std.specs.List.{All, flat_map}
use Rattle.trace_model.specs.declared.refutations.Derived.{Derived}
use Rattle.trace_model.specs.declared.refutations.Reason.{Reason}
use Rattle.trace_model.specs.declared.refutations.Reason.TheVariants.{BeforeMember, ThreadOrder, ForkJoin, ReadsFrom, Sections}
use Rattle.event_files.specs.NumberedText.{AreSmall, after_spaces}
use Rattle.event_files.specs.Refutations.{label_and_number, entry_line, conclusion_line, last_derived_place}
use Rattle.event_files.specs.declared.explanations.ReportHead.{ReportHead}
use Rattle.event_files.specs.declared.explanations.ExplainedMember.{ExplainedMember}
use Rattle.event_files.specs.declared.explanations.ExplainedStep.{ExplainedStep}
use Rattle.event_files.specs.declared.explanations.Evidence.{Evidence}
use Rattle.event_files.specs.declared.explanations.Evidence.TheVariants as evidence
use Rattle.event_files.specs.declared.explanations.Explained.{Explained}
use Rattle.event_files.specs.declared.explanations.ExplainedFile.{ExplainedFile}

-- A member of a cycle.
pub record StatedMember : Type 0 where
  pub thread : ℕ
  pub lock : ℕ
  pub held : List ℕ
  pub place : Option ℕ

-- The evidence of a cycle: the places of a witness, or the steps of a refutation.
pub data StatedEvidence : Type 0 where
  witness : List ℕ → StatedEvidence
  refutation : List ExplainedStep → StatedEvidence

-- A cycle with its members and its evidence.
pub record StatedCycle : Type 0 where
  pub cycle : List ℕ
  pub members : List StatedMember
  pub evidence : StatedEvidence

-- The contents of a file.
pub record Contents : Type 0 where
  pub head : Option ReportHead
  pub cycles : List StatedCycle

-- The member.
abbrev pub stated_member : ExplainedMember → StatedMember
stated_member m =
    record { thread = m.thread; lock = m.lock; held = m.held.items; place = m.place }

-- The evidence.
abbrev pub stated_evidence : Evidence → StatedEvidence
stated_evidence (evidence.Witness places) = witness places.items
stated_evidence (evidence.Refutation steps) = refutation steps.items

-- The cycle with its members and its evidence.
abbrev pub stated_cycle : Explained → StatedCycle
stated_cycle e = record {
  cycle = e.cycle;
  members = map stated_member e.members.items;
  evidence = stated_evidence e.evidence;
}

-- The contents.
abbrev pub contents_of : ExplainedFile → Contents
contents_of f = record { head = f.head; cycles = map stated_cycle f.cycles.items }

-- The first line of a report.
abbrev pub head_line : ReportHead → List ℕ
head_line h =
    label_and_number (codes "question ") h.question
    ++ label_and_number (codes " length ") h.length ++
    label_and_number (codes " bound ") h.bound ++ label_and_number (codes " cycles ") h.cycles ++
    label_and_number (codes " confirmed ") h.confirmed

-- The word of a confirmed or of a potential cycle, after a space.
abbrev pub verdict_words : Bool → List ℕ
verdict_words true = codes " confirmed"
verdict_words false = codes " potential"

-- The line of a cycle, with the word of its verdict.
abbrev pub cycle_line : List ℕ → Bool → List ℕ
cycle_line cycle confirmed = codes "cycle" ++ after_spaces cycle ++ verdict_words confirmed

-- The words of a place at the end of a line.
abbrev pub place_words : Option ℕ → List ℕ
place_words None = []
place_words (Some place) = label_and_number (codes " place ") place

-- The line of a member.
abbrev pub stated_member_line : StatedMember → List ℕ
stated_member_line m =
    label_and_number (codes "  thread ") m.thread ++ label_and_number (codes " lock ") m.lock ++
    codes " holds" ++ after_spaces m.held ++ place_words m.place

-- The line of a witness.
abbrev pub stated_witness_line : List ℕ → List ℕ
stated_witness_line places = codes "  witness" ++ after_spaces places

-- The lines of a step: its entries, and the conclusion about the place of the last one.
abbrev pub step_lines : ExplainedStep → List (List ℕ)
step_lines step = map entry_line step.derivation ++
    conclusion_line step.thread (last_derived_place step.derivation) ∷ []

-- The lines of the evidence.
abbrev pub evidence_lines : StatedEvidence → List (List ℕ)
evidence_lines (witness places) = stated_witness_line places ∷ []
evidence_lines (refutation steps) = flat_map step_lines steps

-- The evidence is that of a confirmed cycle.
abbrev pub is_witness : StatedEvidence → Bool
is_witness (witness places) = true
is_witness (refutation steps) = false

-- The lines of a cycle: its numbers and verdict, its members, and its evidence.
abbrev pub cycle_lines : StatedCycle → List (List ℕ)
cycle_lines c = cycle_line c.cycle (is_witness c.evidence) ∷
    (map stated_member_line c.members ++ evidence_lines c.evidence)

-- The lines of a file.
abbrev pub file_lines : Contents → List (List ℕ)
file_lines f = map head_line (option_to_list f.head) ++ flat_map cycle_lines f.cycles

-- The numbers of the first line.
abbrev pub head_numbers : ReportHead → List ℕ
head_numbers h = h.question ∷ h.length ∷ h.bound ∷ h.cycles ∷ h.confirmed ∷ []

-- The numbers of a member.
abbrev pub member_numbers : StatedMember → List ℕ
member_numbers m = m.thread ∷ m.lock ∷ (m.held ++ option_to_list m.place)

-- The places that a reason names.
abbrev pub reason_numbers : Reason → List ℕ
reason_numbers (BeforeMember of) = of ∷ []
reason_numbers (ThreadOrder of) = of ∷ []
reason_numbers (ForkJoin of) = of ∷ []
reason_numbers (ReadsFrom of) = of ∷ []
reason_numbers (Sections first second) = first ∷ second ∷ []

-- The places of an entry.
abbrev pub entry_numbers : Derived → List ℕ
entry_numbers d = d.place ∷ reason_numbers d.reason

-- The numbers of a step.
abbrev pub step_numbers : ExplainedStep → List ℕ
step_numbers step = step.thread ∷ flat_map entry_numbers step.derivation

-- The numbers of the evidence.
abbrev pub evidence_numbers : StatedEvidence → List ℕ
evidence_numbers (witness places) = places
evidence_numbers (refutation steps) = flat_map step_numbers steps

-- Each step derives a place.
abbrev pub DerivePlaces : StatedEvidence → Type 0
DerivePlaces (witness places) = Unit {0}
DerivePlaces (refutation steps) = All (λ step. 0 < length step.derivation) steps

-- The cycle has 2 to 8 numbers and as many members. They have places exactly if it is confirmed.
pub record IsStatedCycle (c : StatedCycle) : Type 0 where
  pub low : 2 ≤ length c.cycle
  pub high : length c.cycle ≤ 8
  pub each : length c.members ≡ length c.cycle
  pub placed : All (λ m. is_some m.place ≡ is_witness c.evidence) c.members
  pub derived : DerivePlaces c.evidence
  pub cycle_small : AreSmall c.cycle
  pub members_small : All (λ m. AreSmall (member_numbers m)) c.members
  pub evidence_small : AreSmall (evidence_numbers c.evidence)

-- The file has a line, and is one of explained cycles.
pub record IsContents (f : Contents) : Type 0 where
  pub some : 0 < length (file_lines f)
  pub head_small : All (λ h. AreSmall (head_numbers h)) (option_to_list f.head)
  pub cycles : All IsStatedCycle f.cycles
