-- The verdict is `Valid` exactly for a refutation.
use Rattle.std.proofs.Common.{◌≡◌, ℕ, suc, ◌<◌, ◌↔◌, inl, inr, List, [], ◌∷◌, length, slice_get, slice_set, Option, Some, None, MatchOption, refl, sym, ap, subst, ◌∙◌, arith}
use Rattle.std.proofs.lemmas.Bool.{cases_lt}
use Rattle.std.proofs.lemmas.Option.{none-some, same_Some, slice_get_within}
use Rattle.trace_model.specs.declared.refutations.RefutationStep.{RefutationStep}
use Rattle.trace_model.specs.Theory.Trace.{Trace}
use Rattle.trace_model.specs.Theory.Dependencies.{Dependency, dependencies}
use Rattle.trace_model.specs.Theory.Refutation.{EndsAt, IsFirstFrom, AreFirstPlaces, Derives, IsNextPlace, Refutes, IsRefutation}
use Rattle.trace_model.proofs.Lists.{at_index}
use Rattle.trace_model.proofs.Theory.Refutation.{same_member}
use Rattle.trace_model.proofs.Theory.Unique.{no_later_same}
use Rattle.replay.specs.declared.refutation_verdict.RefutationFault.{RefutationFault}
use Rattle.replay.specs.declared.refutation_verdict.RefutationFault.TheVariants.{NoSuchMember, Unjustified, NotDerived}
use Rattle.replay.specs.declared.refutation_verdict.RefutationVerdict.{RefutationVerdict}
use Rattle.replay.specs.declared.refutation_verdict.RefutationVerdict.TheVariants.{Valid}
use Rattle.replay.specs.Refuting.{IsFault, IsEndVerdict, IsVerdictFrom, IsFirstUnknown, IsRefutationVerdict}
use Rattle.dependencies.specs.Tables.{AreDependencyNumbers}

-- ---- what is determined

first_unique : (s : Trace) (d : Dependency) (n : ℕ) (a b : Option ℕ) → IsFirstFrom s d n a → IsFirstFrom s d n b → a ≡ b
first_unique s d n None None h k = refl
first_unique s d n None (Some q) h (low, is, least) = absurd (h q low is)
first_unique s d n (Some p) None (low, is, least) k = absurd (k p low is)
first_unique s d n (Some p) (Some q) (low, is, least) (low', is', least') = elim (cases_lt p q) [
  | inl l ↦ absurd (least' p low l is)
  | inr l ↦ elim (cases_lt q p) [
    | inl m ↦ absurd (least q low' m is')
    | inr m ↦ ap Some (omega arith)
  ]
]

next_unique : (s : Trace) (numbers places : List ℕ) (i : ℕ) (a b : Option ℕ) → IsNextPlace s numbers places i a → IsNextPlace s numbers places i b → a ≡ b
next_unique s numbers places i a b (p, d, at, member, first) (q, e, at', member', first') =
    let place : p ≡ q = same_Some p q (sym at ∙ at') in
    let dependency : d ≡ e = same_member (dependencies s) numbers i d e member member' in
    first_unique s d (suc p) a b first (subst (λ x. IsFirstFrom s x (suc p) b) (sym dependency) (subst (λ x. IsFirstFrom s e (suc x) b) (sym place) first'))

first_places_unique : (s : Trace) (numbers xs ys : List ℕ) → AreFirstPlaces s numbers xs → AreFirstPlaces s numbers ys → xs ≡ ys
first_places_unique s numbers xs ys (len, first) (len', first') = no_later_same xs ys (len ∙ sym len')
    (λ k x y a b. omega (arith, same k x y a b)) (λ k y x b a. omega (arith, same k x y a b))
  where
    same : (k x y : ℕ) → slice_get xs k ≡ Some x → slice_get ys k ≡ Some y → x ≡ y
    same k x y a b =
        let (d, member, is) = first k x a in
        let (e, member', is') = first' k y b in
        let dependency : d ≡ e = same_member (dependencies s) numbers k d e member member' in
        same_Some x y (first_unique s d 0 (Some x) (Some y) is (subst (λ z. IsFirstFrom s z 0 (Some y)) (sym dependency) is'))

none_unknown : (s : Trace) (numbers places : List ℕ) (m : ℕ) → AreFirstPlaces s numbers places → IsFirstUnknown s numbers m → ⊥
none_unknown s numbers places m (len, first) (i, at, low, before) =
    let (p, is) = at_index places i (omega (arith, len, slice_get_within numbers i m at)) in
    let (d, (n, at', has), f) = first i p is in
    let same : n ≡ m = same_Some n m (sym at' ∙ at) in
    omega (arith, same, low, slice_get_within (dependencies s) n d has)

no_fault : (s : Trace) (places : List ℕ) (step : RefutationStep) (fault : RefutationFault) → Derives s places step → IsFault s places step fault → ⊥
no_fault s places step NoSuchMember (p, at, derivation, ends) none = none-some p (sym none ∙ at)
no_fault s places step (Unjustified d) (p, at, derivation, ends) (present, is, (k, e, before, wrong)) = wrong (derivation k d e)
no_fault s places step (NotDerived q) (p, at, derivation, ends) (is, before, missing) =
    missing (subst (EndsAt step.derivation) (same_Some p q (sym at ∙ is)) ends)

-- ---- from the verdict, and back

end_of_steps : (steps : List RefutationStep) (k : ℕ) → IsEndVerdict steps k Valid → steps ≡ []
end_of_steps [] k h = refl
end_of_steps (step ∷ steps) k h = absurd (cc)

valid_refutes : (s : Trace) (numbers : List ℕ) (steps : List RefutationStep) (places : List ℕ) (k : ℕ) → IsVerdictFrom s numbers places steps k Valid → Refutes s numbers places steps
valid_refutes s numbers [] places k h = absurd (cc)
valid_refutes s numbers (step ∷ steps) places k (inl (fault, is, e)) = absurd (cc)
valid_refutes s numbers (step ∷ steps) places k (inr (None, derives, next, end)) = (None, derives, next, end_of_steps steps (suc k) end)
valid_refutes s numbers (step ∷ steps) places k (inr (Some q, derives, next, rest)) =
    (Some q, derives, next, valid_refutes s numbers steps (slice_set places step.member q) (suc k) rest)

refutes_valid : (s : Trace) (numbers : List ℕ) (steps : List RefutationStep) (places : List ℕ) (k : ℕ) (v : RefutationVerdict) →
    Refutes s numbers places steps → IsVerdictFrom s numbers places steps k v → v ≡ Valid
refutes_valid s numbers [] places k v r h = absurd r
refutes_valid s numbers (step ∷ steps) places k v (next, derives, is, then) (inl (fault, f, e)) = absurd (no_fault s places step fault derives f)
refutes_valid s numbers (step ∷ steps) places k v (None, derives, is, then) (inr (other, derives', is', rest)) =
    let same = next_unique s numbers places step.member other None is' is in
    let end = subst (λ o. MatchOption o (IsEndVerdict steps (suc k) v) (λ q. IsVerdictFrom s numbers (slice_set places step.member q) steps (suc k) v)) same rest in
    subst (λ xs. IsEndVerdict xs (suc k) v) then end
refutes_valid s numbers (step ∷ steps) places k v (Some q, derives, is, then) (inr (other, derives', is', rest)) =
    let same = next_unique s numbers places step.member other (Some q) is' is in
    refutes_valid s numbers steps (slice_set places step.member q) (suc k) v then
    (subst (λ o. MatchOption o (IsEndVerdict steps (suc k) v) (λ q. IsVerdictFrom s numbers (slice_set places step.member q) steps (suc k) v)) same rest)

pub valid_is_refutation : (s : Trace) (numbers : List ℕ) (steps : List RefutationStep) (v : RefutationVerdict) → IsRefutationVerdict s numbers steps v →
    (v ≡ Valid) ↔ IsRefutation s numbers steps
valid_is_refutation s numbers steps v (inl (m, unknown, e)) = (
  (λ h. absurd (cc)),
  λ (places, first, r). absurd (none_unknown s numbers places m first unknown),
)
valid_is_refutation s numbers steps v (inr (places, first, h)) = (
  (λ e. (places, first, valid_refutes s numbers steps places 0 (subst (IsVerdictFrom s numbers places steps 0) e h))),
  λ (others, first', r). refutes_valid s numbers steps places 0 v
      (subst (λ xs. Refutes s numbers xs steps) (first_places_unique s numbers others places first' first) r) h,
)

-- ---- what a walk along the steps begins with

pub first_known : (s : Trace) (numbers places : List ℕ) → AreFirstPlaces s numbers places → AreDependencyNumbers s numbers
first_known s numbers places (len, first) i m at =
    let (p, is) = at_index places i (omega (arith, len, slice_get_within numbers i m at)) in
    let (d, (n, at', has), f) = first i p is in
    subst (λ x. x < length (dependencies s)) (same_Some n m (sym at' ∙ at)) (slice_get_within (dependencies s) n d has)
