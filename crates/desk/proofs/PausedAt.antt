-- The jobs that are kept for the questions, after a change.
use Rattle.std.proofs.Common.{◌≡◌, ℕ, zero, suc, ◌<◌, Bool, List, [], ◌∷◌, ◌++◌, length, inl, inr, Option, Some, None, refl, sym, ap, subst, arith}
use Rattle.std.proofs.lemmas.Bool.Decides.{eqb_tells}
use Rattle.std.specs.Prelude.{nat_eq, slice_set, if◌then◌else◌}
use Rattle.desk.specs.Turns.{TaskJobView, paused_at}

pub paused_push : (jobs : List (Option TaskJobView)) (number : ℕ) → paused_at (jobs ++ None ∷ []) number ≡ paused_at jobs number
paused_push [] zero = refl
paused_push [] (suc number) = refl
paused_push (job ∷ jobs) zero = refl
paused_push (job ∷ jobs) (suc number) = paused_push jobs number

set_here : (jobs : List (Option TaskJobView)) (number : ℕ) (job : Option TaskJobView) → number < length jobs → paused_at (slice_set jobs number job) number ≡ job
set_here [] number job l = absurd (omega (arith, l))
set_here (first ∷ jobs) zero job l = refl
set_here (first ∷ jobs) (suc number) job l = set_here jobs number job (omega (arith, l))

set_elsewhere : (jobs : List (Option TaskJobView)) (number : ℕ) (job : Option TaskJobView) (other : ℕ) → (number ≡ other → ⊥) →
    paused_at (slice_set jobs number job) other ≡ paused_at jobs other
set_elsewhere [] number job other apart = refl
set_elsewhere (first ∷ jobs) zero job zero apart = absurd (apart refl)
set_elsewhere (first ∷ jobs) zero job (suc other) apart = refl
set_elsewhere (first ∷ jobs) (suc number) job zero apart = refl
set_elsewhere (first ∷ jobs) (suc number) job (suc other) apart = set_elsewhere jobs number job other (λ e. apart (ap suc e))

pub paused_set : (jobs : List (Option TaskJobView)) (number : ℕ) (job : Option TaskJobView) (other : ℕ) → number < length jobs →
    paused_at (slice_set jobs number job) other ≡ (if nat_eq number other then job else paused_at jobs other)
paused_set jobs number job other l =
    let Is : Bool → Type 0 = λ same. paused_at (slice_set jobs number job) other ≡ (if same then job else paused_at jobs other) in
    elim (eqb_tells number other) [
      | inl same ↦ subst Is (sym same.0) (subst (λ n. paused_at (slice_set jobs number job) n ≡ job) same.1 (set_here jobs number job l))
      | inr apart ↦ subst Is (sym apart.0) (set_elsewhere jobs number job other apart.1)
    ]

pub paused_own : (number : ℕ) (job other : Option TaskJobView) → (if nat_eq number number then job else other) ≡ job
paused_own number job other = elim (eqb_tells number number) [
  | inl same ↦ subst (λ (b : Bool). (if b then job else other) ≡ job) (sym same.0) refl
  | inr apart ↦ absurd (apart.1 refl)
]
