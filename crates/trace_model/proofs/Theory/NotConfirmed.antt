-- Every cycle that is not confirmed has a refutation.
use Rattle.std.proofs.Common.{◌≡◌, ℕ, zero, suc, ◌+◌, ◌-◌, ◌<◌, ◌≤◌, Bool, true, false, List, [], ◌∷◌, length, slice_get, slice_set, Option, Some, None, refl, sym, ap, subst, ◌∙◌, arith}
use Rattle.std.proofs.lemmas.Bool.{false≢true}
use Rattle.std.proofs.lemmas.Option.{none-some, same_Some, slice_get_within}
use Rattle.std.specs.List.{Contains, list_any}
use Rattle.std.specs.Option.{option_map_or}
use Rattle.trace_model.specs.declared.refutations.Derived.{Derived}
use Rattle.trace_model.specs.declared.refutations.RefutationStep.{RefutationStep}
use Rattle.trace_model.specs.Theory.Trace.{Trace, first_place}
use Rattle.trace_model.specs.Theory.Lawful.{IsWellFormed}
use Rattle.trace_model.specs.Theory.Dependencies.{Dependency, dependency_at, same_dependency, dependencies}
use Rattle.trace_model.specs.Theory.Cycles.{Member, IsCycle, IsInstance, IsConfirmed}
use Rattle.trace_model.specs.Theory.Refutation.{derived_places, IsDerivation, EndsAt, IsFirstFrom, AreFirstPlaces, Refutes, IsRefutation}
use Rattle.trace_model.proofs.Lists.{at_index, some_passes, none_passes}
use Rattle.trace_model.proofs.Theory.Places.{first_place_some, first_place_none}
use Rattle.trace_model.proofs.Theory.Ascending.{place_of, contains_at, listed, listed_contains}
use Rattle.trace_model.proofs.Theory.Stability.{reached_from}
use Rattle.trace_model.proofs.Theory.Dependencies.{dependency_so, same_dependency_so, same_dependency_itself, numbered}
use Rattle.trace_model.proofs.Theory.Refutation.{ArePresent, same_member, present_moves, first_present, ending_at}
use Rattle.trace_model.proofs.Theory.Derivable.{IsWhole, whole_derivation, complete_closes, complete_holds}

-- ---- the first place of a dependency from a place on

abbrev has_dependency : Trace → Dependency → ℕ → Bool
has_dependency s d p = option_map_or (same_dependency d) (dependency_at s p) false

has_so : (s : Trace) (d : Dependency) (p : ℕ) → has_dependency s d p ≡ true → dependency_at s p ≡ Some d
has_so s d p h = go (dependency_at s p) refl h
  where
    go : (o : Option Dependency) → dependency_at s p ≡ o → option_map_or (same_dependency d) o false ≡ true → dependency_at s p ≡ Some d
    go None e k = absurd (false≢true k)
    go (Some x) e k = e ∙ ap Some (sym (same_dependency_so d x k))

has_from : (s : Trace) (d : Dependency) (p : ℕ) → dependency_at s p ≡ Some d → has_dependency s d p ≡ true
has_from s d p h = rw h (same_dependency_itself d)

within_trace : (s : Trace) (p : ℕ) (d : Dependency) → dependency_at s p ≡ Some d → p < length s
within_trace s p d h = slice_get_within s p _ (dependency_so s p d h).0.0

pub first_from : (s : Trace) (d : Dependency) (n : ℕ) → (o : Option ℕ) × IsFirstFrom s d n o
first_from s d n = go (first_place (has_dependency s d) n (length s - n)) refl
  where
    go : (o : Option ℕ) → first_place (has_dependency s d) n (length s - n) ≡ o → (first : Option ℕ) × IsFirstFrom s d n first
    go None e = (
      None,
      λ u low h.
          first_place_none (has_dependency s d) n (length s - n) e u low (omega (arith, within_trace s u d h, low)) (has_from s d u h),
    )
    go (Some p) e =
        let is = first_place_some (has_dependency s d) n (length s - n) p e in
        (Some p, (is.0, has_so s d p is.2, λ u low below h. is.3 u low below (has_from s d u h)))

-- ---- the first places of the members

first_places : (s : Trace) (numbers : List ℕ) → ((m : ℕ) → Contains numbers m → m < length (dependencies s)) →
    (places : List ℕ) × AreFirstPlaces s numbers places
first_places s [] known = ([], (refl, λ i p h. absurd (none-some p h)))
first_places s (m ∷ numbers) known =
    let (places, more) = first_places s numbers (λ n c. let (k, at) = place_of numbers n c in known n (contains_at (m ∷ numbers) n (suc k) at)) in
    let (d, at) = at_index (dependencies s) m (known m (contains_at (m ∷ numbers) m zero refl)) in
    let there = (numbered s (length s)).appears m d at in
    let (o, first) = first_from s d 0 in
    go d at places more o first there.0 there.2
  where
    go : (d : Dependency) → slice_get (dependencies s) m ≡ Some d → (places : List ℕ) → AreFirstPlaces s numbers places →
        (o : Option ℕ) → IsFirstFrom s d 0 o → (q : ℕ) → dependency_at s q ≡ Some d → (all : List ℕ) × AreFirstPlaces s (m ∷ numbers) all
    go d at places more None first q h = absurd (first q (omega arith) h)
    go d at places more (Some p) first q h = (p ∷ places, (ap suc more.0, each))
      where
        each : (i x : ℕ) → slice_get (p ∷ places) i ≡ Some x → (e : Dependency) × Member (dependencies s) (m ∷ numbers) i e × IsFirstFrom s e 0 (Some x)
        each zero x k = (d, (m, refl, at), subst (λ y. IsFirstFrom s d 0 (Some y)) (same_Some p x k) first)
        each (suc i) x k = more.1 i x k

-- ---- the members move

abbrev remaining : ℕ → List ℕ → ℕ
remaining n [] = 0
remaining n (p ∷ places) = (n - p) + remaining n places

remaining_less : (n : ℕ) (places : List ℕ) (i p q : ℕ) → slice_get places i ≡ Some p → p < q → q < n →
    remaining n (slice_set places i q) < remaining n places
remaining_less n [] i p q h l m = absurd (none-some p h)
remaining_less n (x ∷ places) zero p q h l m = let same : x ≡ p = same_Some x p h in omega (arith, same, l, m)
remaining_less n (x ∷ places) (suc i) p q h l m = omega (arith, remaining_less n places i p q h l m)

present_is_instance : (s : Trace) (numbers places : List ℕ) → ArePresent s numbers places → IsInstance s numbers places
present_is_instance s numbers places h = (
  h.as_many,
  λ i m p d a b c.
      let (e, member, at) = h.members i p c in
      at ∙ ap Some (same_member (dependencies s) numbers i e d member (m, a, b)),
)

-- a member whose place is derived, unless the cycle is confirmed
caught_member : (s : Trace) → IsWellFormed s → (numbers places : List ℕ) → ArePresent s numbers places → (IsConfirmed s numbers → ⊥) →
    (entries : List Derived) → IsWhole s places entries →
    (i : ℕ) × (p : ℕ) × (slice_get places i ≡ Some p) × Contains (derived_places entries) p
caught_member s w numbers places h not_confirmed entries whole = go (list_any (listed (derived_places entries)) places) refl
  where
    go : (b : Bool) → list_any (listed (derived_places entries)) places ≡ b →
        (i : ℕ) × (p : ℕ) × (slice_get places i ≡ Some p) × Contains (derived_places entries) p
    go true e =
        let (i, p, at, c) = some_passes (listed (derived_places entries)) places e in
        (i, p, at, listed_contains (derived_places entries) p c)
    go false e = absurd (not_confirmed (
      places,
      present_is_instance s numbers places h,
      reached_from s w places (listed (derived_places entries))
          (complete_closes s places (derived_places entries) whole.1) (complete_holds s places (derived_places entries) whole.1)
          (λ p c k. let (i, at) = place_of places p c in
          false≢true (sym (none_passes (listed (derived_places entries)) places i p e at) ∙ k)),
    ))

module _ (s : Trace) (w : IsWellFormed s) (numbers : List ℕ) (not_confirmed : IsConfirmed s numbers → ⊥) where
  one_step : (places : List ℕ) → ArePresent s numbers places →
      ((i p q : ℕ) (d : Dependency) → slice_get places i ≡ Some p → p < q → Member (dependencies s) numbers i d → dependency_at s q ≡ Some d →
      (steps : List RefutationStep) × Refutes s numbers (slice_set places i q) steps) →
      (steps : List RefutationStep) × Refutes s numbers places steps
  one_step places h more =
      let (entries, whole) = whole_derivation s places in
      let (i, p, at, caught) = caught_member s w numbers places h not_confirmed entries whole in
      let (d, member, is) = h.members i p at in
      let (next, first) = first_from s d (suc p) in
      let (part, derivation, ends) = ending_at s places entries p whole.0 caught in
      go part derivation i p at ends d member next first
    where
      go : (entries : List Derived) → IsDerivation s places entries → (i p : ℕ) → slice_get places i ≡ Some p → EndsAt entries p →
          (d : Dependency) → Member (dependencies s) numbers i d → (next : Option ℕ) → IsFirstFrom s d (suc p) next →
          (steps : List RefutationStep) × Refutes s numbers places steps
      go entries derivation i p at ends d member None first =
          (record { member = i; derivation = entries } ∷ [], (None, (p, at, derivation, ends), (p, d, at, member, first), refl))
      go entries derivation i p at ends d member (Some q) first =
          let (steps, rest) = more i p q d at (omega (arith, first.0)) member first.1 in
          (record { member = i; derivation = entries } ∷ steps, (Some q, (p, at, derivation, ends), (p, d, at, member, first), rest))

  steps_from : (n : ℕ) (places : List ℕ) → ArePresent s numbers places → remaining (length s) places ≤ n →
      (steps : List RefutationStep) × Refutes s numbers places steps
  steps_from zero places h low = one_step places h (λ i p q d at l member is.
      absurd (omega (arith, low, remaining_less (length s) places i p q at l (within_trace s q d is))))
  steps_from (suc n) places h low = one_step places h (λ i p q d at l member is.
      steps_from n (slice_set places i q) (present_moves s numbers places i q d h member is)
      (omega (arith, low, remaining_less (length s) places i p q at l (within_trace s q d is))))

pub not_confirmed_refuted : (s : Trace) → IsWellFormed s → (bound : ℕ) (numbers : List ℕ) → IsCycle (dependencies s) bound numbers →
    (IsConfirmed s numbers → ⊥) → (steps : List RefutationStep) × IsRefutation s numbers steps
not_confirmed_refuted s w bound numbers cycle not_confirmed =
    let (places, first) = first_places s numbers cycle.known in
    let (steps, r) = steps_from s w numbers not_confirmed (remaining (length s) places) places (first_present s numbers places first) (omega arith) in
    (steps, (places, first, r))
