-- The verdict on a refutation.
use Rattle.std.proofs.Common.{◌≡◌, ℕ, zero, suc, ◌+◌, ◌<◌, inl, inr, List, [], ◌∷◌, length, drop, drop-cons, slice_get, slice_set, Some, None, refl, sym, ap, subst, ◌∙◌, arith}
use Rattle.std.proofs.lemmas.Option.{slice_get_within, get_or_from_slice_get}
use Rattle.trace_model.specs.declared.refutations.RefutationStep.{RefutationStep}
use Rattle.trace_model.specs.Theory.Trace.{Trace}
use Rattle.trace_model.specs.Theory.Refutation.{Derives, IsNextPlace}
use Rattle.replay.specs.declared.refutation_verdict.RefutationFault.{RefutationFault}
use Rattle.replay.specs.declared.refutation_verdict.RefutationVerdict.{RefutationVerdict}
use Rattle.replay.specs.declared.refutation_verdict.RefutationVerdict.TheVariants.{WrongStep, AfterEnd}
use Rattle.replay.specs.Refuting.{IsFault, IsEndVerdict, IsVerdictFrom}

-- a step follows the end
pub end_more : (steps : List RefutationStep) (k n : ℕ) → k < length steps → IsEndVerdict (drop k steps) n (AfterEnd n)
end_more [] k n l = absurd (omega arith)
end_more (step ∷ steps) zero n l = refl
end_more (step ∷ steps) (suc k) n l = end_more steps k n (omega arith)

drop_step : (steps : List RefutationStep) (k : ℕ) (step : RefutationStep) → slice_get steps k ≡ Some step → drop k steps ≡ step ∷ drop (suc k) steps
drop_step steps k step at = drop-cons steps k step (slice_get_within steps k step at) ∙ ap (λ x. x ∷ drop (suc k) steps) (get_or_from_slice_get steps k step step at)

module _ (s : Trace) (numbers places : List ℕ) (steps : List RefutationStep) (k : ℕ) where
  pub fault_verdict : (step : RefutationStep) → slice_get steps k ≡ Some step → (fault : RefutationFault) → IsFault s places step fault →
      IsVerdictFrom s numbers places (drop k steps) k (WrongStep k fault)
  fault_verdict step at fault is = subst (λ left. IsVerdictFrom s numbers places left k (WrongStep k fault)) (sym (drop_step steps k step at)) (inl (fault, is, refl))

  pub last_verdict : (step : RefutationStep) → slice_get steps k ≡ Some step → Derives s places step → IsNextPlace s numbers places step.member None →
      (v : RefutationVerdict) → IsEndVerdict (drop (k + 1) steps) (k + 1) v → IsVerdictFrom s numbers places (drop k steps) k v
  last_verdict step at derives next v end =
      let up : k + 1 ≡ suc k = omega arith in
      subst (λ left. IsVerdictFrom s numbers places left k v) (sym (drop_step steps k step at))
      (inr (None, derives, next, subst (λ n. IsEndVerdict (drop n steps) n v) up end))

  pub moved_verdict : (step : RefutationStep) → slice_get steps k ≡ Some step → Derives s places step → (q : ℕ) → IsNextPlace s numbers places step.member (Some q) →
      (v : RefutationVerdict) → IsVerdictFrom s numbers (slice_set places step.member q) (drop (k + 1) steps) (k + 1) v → IsVerdictFrom s numbers places (drop k steps) k v
  moved_verdict step at derives q next v rest =
      let up : k + 1 ≡ suc k = omega arith in
      subst (λ left. IsVerdictFrom s numbers places left k v) (sym (drop_step steps k step at))
      (inr (Some q, derives, next, subst (λ n. IsVerdictFrom s numbers (slice_set places step.member q) (drop n steps) n v) up rest))
