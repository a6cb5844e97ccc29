-- The lines of explained cycles, by kind.
use Rattle.std.proofs.Common.{◌≡◌, ℕ, ◌≤◌, Bool, List, [], ◌∷◌, Some, get_or, length, refl, sym, ap, ◌∙◌, eqb, false}
use Rattle.std.specs.Prelude.{option_map}
use Rattle.trace_model.specs.declared.refutations.Derived.{Derived}
use Rattle.trace_model.specs.declared.refutations.Reason.{Reason}
use Rattle.trace_model.specs.declared.refutations.Reason.TheVariants.{BeforeMember, ThreadOrder, ForkJoin, ReadsFrom, Sections}
use Rattle.event_files.specs.declared.explanations.ReportHead.{ReportHead}
use Rattle.event_files.specs.ExplainedLines.{IsTextOfLine, StatedLine, head, row, member, places, entry, conclusion}
use Rattle.event_files.specs.ExplainedText.{StatedMember, cycle_line, entry_numbers, head_line, head_numbers, stated_member_line, member_numbers, stated_witness_line}
use Rattle.event_files.specs.NumberedText.{AreSmall}
use Rattle.event_files.specs.Refutations.{conclusion_line, entry_line, reason_line}
use Rattle.event_files.proofs.ExplainedTexts.{apart_at, apart_bytes}

-- the third bytes of an entry and of another line differ
entry_apart : (r : Reason) (p byte : ℕ) (text : List ℕ) → text ≡ reason_line r p → get_or text 2 0 ≡ byte → eqb 98 byte ≡ false → eqb 112 byte ≡ false → ⊥
entry_apart (BeforeMember q) p byte text is at before place = apart_bytes (sym (ap (λ t. get_or t 2 0) is) ∙ at) before
entry_apart (ThreadOrder q) p byte text is at before place = apart_bytes (sym (ap (λ t. get_or t 2 0) is) ∙ at) place
entry_apart (ForkJoin q) p byte text is at before place = apart_bytes (sym (ap (λ t. get_or t 2 0) is) ∙ at) place
entry_apart (ReadsFrom q) p byte text is at before place = apart_bytes (sym (ap (λ t. get_or t 2 0) is) ∙ at) place
entry_apart (Sections q r) p byte text is at before place = apart_bytes (sym (ap (λ t. get_or t 2 0) is) ∙ at) place

-- a text of a first line is that of no other line
pub head_alone : (h : ReportHead) (text : List ℕ) (l : StatedLine) → text ≡ head_line h → ((k : ReportHead) → AreSmall (head_numbers k) → text ≡ head_line k → Some h ≡ Some k) →
    IsTextOfLine text l → Some (head h) ≡ Some l
head_alone h text (head k) is only line = ap (option_map head) (only k line.0.small line.1)
head_alone h text (row cycle confirmed) is only line = absurd (apart_at 2 (sym is ∙ line.1) refl)
head_alone h text (member m) is only line = absurd (apart_at 2 (sym is ∙ line.1) refl)
head_alone h text (places order) is only line = absurd (apart_at 2 (sym is ∙ line.1) refl)
head_alone h text (entry d) is only line = absurd (entry_apart d.reason d.place 101 text line.1 (ap (λ t. get_or t 2 0) is) refl refl)
head_alone h text (conclusion thread place) is only line = absurd (apart_at 2 (sym is ∙ line.1) refl)

-- so it is with the text of a member
pub member_alone : (m : StatedMember) (text : List ℕ) (l : StatedLine) → text ≡ stated_member_line m → ((n : StatedMember) → AreSmall (member_numbers n) → text ≡ stated_member_line n → Some m ≡ Some n) →
    IsTextOfLine text l → Some (member m) ≡ Some l
member_alone m text (head h) is only line = absurd (apart_at 2 (sym is ∙ line.1) refl)
member_alone m text (row cycle confirmed) is only line = absurd (apart_at 2 (sym is ∙ line.1) refl)
member_alone m text (member n) is only line = ap (option_map member) (only n line.0.small line.1)
member_alone m text (places order) is only line = absurd (apart_at 2 (sym is ∙ line.1) refl)
member_alone m text (entry d) is only line = absurd (entry_apart d.reason d.place 116 text line.1 (ap (λ t. get_or t 2 0) is) refl refl)
member_alone m text (conclusion thread place) is only line = absurd (apart_at 2 (sym is ∙ line.1) refl)

-- a text of no kind of line
pub record IsNoLine (text : List ℕ) : Type 0 where
  pub head : (h : ReportHead) → AreSmall (head_numbers h) → text ≡ head_line h → ⊥
  pub row : (cycle : List ℕ) (confirmed : Bool) → AreSmall cycle → 2 ≤ length cycle → length cycle ≤ 8 → text ≡ cycle_line cycle confirmed → ⊥
  pub member : (m : StatedMember) → AreSmall (member_numbers m) → text ≡ stated_member_line m → ⊥
  pub places : (order : List ℕ) → AreSmall order → text ≡ stated_witness_line order → ⊥
  pub entry : (d : Derived) → AreSmall (entry_numbers d) → text ≡ entry_line d → ⊥
  pub conclusion : (thread place : ℕ) → AreSmall (thread ∷ place ∷ []) → text ≡ conclusion_line thread place → ⊥

pub no_line : (text : List ℕ) (l : StatedLine) → IsNoLine text → IsTextOfLine text l → ⊥
no_line text (head h) none line = none.head h line.0.small line.1
no_line text (row cycle confirmed) none line = none.row cycle confirmed line.0.small line.0.sized.0 line.0.sized.1 line.1
no_line text (member m) none line = none.member m line.0.small line.1
no_line text (places order) none line = none.places order line.0.small line.1
no_line text (entry d) none line = none.entry d line.0.small line.1
no_line text (conclusion thread place) none line = none.conclusion thread place line.0.small line.1
