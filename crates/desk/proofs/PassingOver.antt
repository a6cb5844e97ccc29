-- The questions that a worker passes over.
use Rattle.std.proofs.Common.{◌≡◌, ◌≢◌, ℕ, zero, suc, ◌<◌, ◌⊎◌, Bool, true, List, [], ◌∷◌, length, slice_get, inl, inr, Option, Some, None, refl, sym, ap, subst, ◌∙◌, arith}
use Rattle.std.specs.Prelude.{IfSome, slice_set}
use Rattle.board.specs.declared.summary.QuestionSummary.{QuestionSummary}
use Rattle.board.specs.declared.summary.Unsettled.{Unsettled}
use Rattle.board.specs.Unsettled.{IsLeastUnsettled}
use Rattle.desk.specs.Turns.{PassesOver}

set_keeps : (xs : List Bool) (n q : ℕ) → slice_get xs q ≡ Some true → slice_get (slice_set xs n true) q ≡ Some true
set_keeps [] n q h = h
set_keeps (x ∷ xs) zero zero h = refl
set_keeps (x ∷ xs) zero (suc q) h = h
set_keeps (x ∷ xs) (suc n) zero h = h
set_keeps (x ∷ xs) (suc n) (suc q) h = set_keeps xs n q h

set_here : (xs : List Bool) (n : ℕ) → n < length xs → slice_get (slice_set xs n true) n ≡ Some true
set_here [] n l = absurd (omega (arith, l))
set_here (x ∷ xs) zero l = refl
set_here (x ∷ xs) (suc n) l = set_here xs n (omega (arith, l))

set_only : (xs : List Bool) (n q : ℕ) → slice_get (slice_set xs n true) q ≡ Some true → (n ≡ q) ⊎ (slice_get xs q ≡ Some true)
set_only [] n q h = inr h
set_only (x ∷ xs) zero zero h = inl refl
set_only (x ∷ xs) zero (suc q) h = inr h
set_only (x ∷ xs) (suc n) zero h = inr h
set_only (x ∷ xs) (suc n) (suc q) h = elim (set_only xs n q h) [
  | inl e ↦ inl (ap suc e)
  | inr k ↦ inr k
]

-- One more question is passed over.
pub passes_more : (given_up passed_over : List Bool) (n : ℕ) → PassesOver given_up passed_over → PassesOver given_up (slice_set passed_over n true)
passes_more given_up passed_over n h q e = set_keeps passed_over n q (h q e)

-- One more question is given up.
pub passes_given_up : (given_up passed_over : List Bool) (n : ℕ) → n < length passed_over → PassesOver given_up passed_over →
    PassesOver (slice_set given_up n true) (slice_set passed_over n true)
passes_given_up given_up passed_over n l h q e = elim (set_only given_up n q e) [
  | inl is ↦ subst (λ m. slice_get (slice_set passed_over n true) m ≡ Some true) is (set_here passed_over n l)
  | inr was ↦ set_keeps passed_over n q (h q was)
]

-- The least unsettled question that is not passed over was not given up.
pub not_given_up : (given_up passed : List Bool) (questions : List QuestionSummary) (found : Option Unsettled) → PassesOver given_up passed →
    IsLeastUnsettled passed questions found → IfSome found (λ one. slice_get given_up one.number ≢ Some true)
not_given_up given_up passed questions None h least = tt
not_given_up given_up passed questions (Some one) h least = λ e. least.unsettled.wanted (h one.number e)
