-- The lines that `check` prints (this project's profile).
use Rattle.std.specs.Prelude.{ℕ, List, ◌++◌, codes, drop}
use Rattle.std.specs.List.{flat_map}
use Rattle.trace_model.specs.declared.refutations.Derived.{Derived}
use Rattle.event_files.specs.Refutations.{entry_text, label_and_number}
use Rattle.replay.specs.Tests.{test_name}
use Rattle.replay.specs.declared.refutation_verdict.RefutationVerdict.{RefutationVerdict}
use Rattle.replay.specs.declared.refutation_verdict.RefutationVerdict.TheVariants.{Valid, UnknownNumber, WrongStep, AfterEnd, PlaceLeft}
use Rattle.replay.specs.declared.refutation_verdict.RefutationFault.{RefutationFault}
use Rattle.replay.specs.declared.refutation_verdict.RefutationFault.TheVariants.{NoSuchMember, Unjustified, NotDerived}
use Rattle.replay.specs.declared.verdict.Verdict.TheVariants.{Reaches, Fails}
use Rattle.commands.specs.Text.{labeled_line}
use Rattle.commands.specs.declared.check_verdicts.HeadVerdict.{HeadVerdict}
use Rattle.commands.specs.declared.check_verdicts.HeadVerdict.TheVariants as heads
use Rattle.commands.specs.declared.check_verdicts.CycleVerdict.{CycleVerdict}
use Rattle.commands.specs.declared.check_verdicts.CycleVerdict.TheVariants.{Row, Witness, NoRefutation, Refutation}
use Rattle.commands.specs.declared.explained_rows.RowFault.{RowFault}
use Rattle.commands.specs.declared.explained_rows.RowFault.TheVariants as faults

-- The line of the verdict on the first line of a report.
abbrev pub head_verdict_line : HeadVerdict → List ℕ
head_verdict_line (heads.OtherLength n) = labeled_line (codes "report has another length than ") n
head_verdict_line (heads.LongerCycle k) =
    labeled_line (codes "report has a cycle longer than bound ") k
head_verdict_line (heads.OtherCycles n) =
    labeled_line (codes "report has another count of cycles than ") n
head_verdict_line (heads.OtherConfirmed n) =
    labeled_line (codes "report has another count of confirmed cycles than ") n
head_verdict_line heads.Valid = codes "report valid\n"

-- the sentence of an entry after one space, as a line
abbrev pub sentence : Derived → List ℕ
sentence d = drop 1 (entry_text d)

-- why a step is wrong
abbrev pub step_words : RefutationFault → List ℕ
step_words NoSuchMember = codes " has no such member\n"
step_words (Unjustified d) = codes " is wrong:" ++ sentence d
step_words (NotDerived p) = labeled_line (codes " does not derive place ") p

-- the verdict on a refutation
abbrev pub refutation_words : RefutationVerdict → List ℕ
refutation_words Valid = codes " valid\n"
refutation_words (UnknownNumber m) = labeled_line (codes " unknown dependency ") m
refutation_words (WrongStep k fault) = label_and_number (codes " step ") k ++ step_words fault
refutation_words (AfterEnd k) =
    label_and_number (codes " step ") k ++ codes " comes after the end\n"
refutation_words PlaceLeft = codes " ends with a place left\n"

-- why a row is not one of the trace
abbrev pub row_words : RowFault → List ℕ
row_words (faults.UnknownNumber m) = labeled_line (codes " unknown dependency ") m
row_words (faults.OtherMember m) =
    labeled_line (codes " another member than dependency ") m
row_words faults.NoCycle = codes " is no cycle\n"
row_words (faults.OtherPlace p) = labeled_line (codes " no acquire of its member at place ") p

-- the verdict on a cycle
abbrev pub cycle_verdict_words : CycleVerdict → List ℕ
cycle_verdict_words (Row fault) = row_words fault
cycle_verdict_words (Witness Reaches) = codes " valid\n"
cycle_verdict_words (Witness (Fails fault place)) =
    codes " fault " ++ test_name fault ++ labeled_line (codes " ") place
cycle_verdict_words NoRefutation = codes " no refutation\n"
cycle_verdict_words (Refutation v) = refutation_words v

-- the line of a cycle with its verdict
abbrev pub checked_line : List ℕ → CycleVerdict → List ℕ
checked_line numbers v =
    codes "cycle" ++ flat_map (label_and_number (codes " ")) numbers ++ cycle_verdict_words v
