-- The marks of the derived places.
use Rattle.std.proofs.Common.{◌≡◌, ℕ, zero, suc, ◌+◌, ◌<◌, ◌≤◌, inl, inr, Bool, true, false, List, [], ◌∷◌, ◌++◌, length, replicate, take, slice_get, slice_set, Some, refl, sym, ap, subst, ◌∙◌, arith}
use Rattle.std.proofs.lemmas.Bool.{cases_lt, false≢true}
use Rattle.std.proofs.lemmas.List.{length-map}
use Rattle.std.proofs.lemmas.Option.{none-some, same_Some, slice_get-map, slice_get_within}
use Rattle.std.specs.Option.{option_map}
use Rattle.trace_model.specs.declared.refutations.Derived.{Derived}
use Rattle.trace_model.specs.Theory.Trace.{Trace}
use Rattle.trace_model.specs.Theory.Refutation.{Justifies, derived_places, IsDerivation}
use Rattle.trace_model.proofs.Lists.{at_index, get-push, get-push_kept, get-push_last, get-set_same}
use Rattle.trace_model.proofs.Theory.Ascending.{place_of, contains_at}
use Rattle.trace_model.proofs.Theory.Refutation.{set_cases}
use Rattle.trace_model.proofs.Theory.Derivable.{derived_push, one_more_derived}
use Rattle.replay.specs.Refuting.{AreMarksOf, IsUnmarked}
use Rattle.replay.proofs.Lists.{take_more}

pub derives_more : (s : Trace) (places : List ℕ) (entries : List Derived) (k : ℕ) (d : Derived) → slice_get entries k ≡ Some d →
    IsDerivation s places (take k entries) → Justifies s places (derived_places (take k entries)) d.reason d.place → IsDerivation s places (take (k + 1) entries)
derives_more s places entries k d at h j = subst (IsDerivation s places) (sym (take_more entries k d at)) (one_more_derived s places (take k entries) d h j)

derived_at : (entries : List Derived) (k : ℕ) (d : Derived) → slice_get entries k ≡ Some d → slice_get (derived_places entries) k ≡ Some d.place
derived_at entries k d at = slice_get-map (λ (x : Derived). x.place) entries k ∙ ap (option_map (λ (x : Derived). x.place)) at

set_keeps : {X : Type 0} (xs : List X) (i j : ℕ) (y : X) → slice_get xs j ≡ Some y → slice_get (slice_set xs i y) j ≡ Some y
set_keeps [] i j y h = absurd (none-some y h)
set_keeps (x ∷ xs) zero zero y h = refl
set_keeps (x ∷ xs) zero (suc j) y h = h
set_keeps (x ∷ xs) (suc i) zero y h = h
set_keeps (x ∷ xs) (suc i) (suc j) y h = set_keeps xs i j y h

pub place_marked : (marks : List Bool) (p : ℕ) (derived : List ℕ) → p < length marks → AreMarksOf marks derived →
    AreMarksOf (slice_set marks p true) (derived ++ p ∷ [])
place_marked marks p derived within h q = (
  (λ e. elim (set_cases marks p q true true e) [
    | inl a ↦ contains_at (derived ++ p ∷ []) q (length derived) (subst (λ x. slice_get (derived ++ p ∷ []) (length derived) ≡ Some x) (sym a.0) (get-push_last derived p))
    | inr a ↦ let (j, at) = place_of derived q ((h q).0 a) in contains_at (derived ++ p ∷ []) q j (get-push_kept derived p j q at)
  ]),
  λ c. let (j, at) = place_of (derived ++ p ∷ []) q c in
      elim (get-push derived p j q at) [
        | inl a ↦ set_keeps marks p q true ((h q).1 (contains_at derived q j a))
        | inr a ↦ let (x, is) = at_index marks p within in subst (λ z. slice_get (slice_set marks p true) z ≡ Some true) a.1 (get-set_same marks p x true is)
      ],
)

pub entry_marked : (marks : List Bool) (p : ℕ) (entries : List Derived) (k : ℕ) (d : Derived) → slice_get entries k ≡ Some d → p ≡ d.place → p < length marks →
    AreMarksOf marks (derived_places (take k entries)) → AreMarksOf (slice_set marks p true) (derived_places (take (k + 1) entries))
entry_marked marks p entries k d at same within h =
    let more : derived_places (take (k + 1) entries) ≡ derived_places (take k entries) ++ p ∷ [] =
    ap derived_places (take_more entries k d at) ∙ derived_push (take k entries) d ∙ ap (λ x. derived_places (take k entries) ++ x ∷ []) (sym same) in
    subst (AreMarksOf (slice_set marks p true)) (sym more) (place_marked marks p (derived_places (take k entries)) within h)

-- at first exactly the places of no entry are marked
pub none_marked : (marks : List Bool) → IsUnmarked marks → AreMarksOf marks []
none_marked marks h p = ((λ e. absurd (h p e)), λ c. let (j, at) = place_of [] p c in absurd (none-some p at))

pub no_marks_yet : (n : ℕ) → IsUnmarked (replicate n false)
no_marks_yet zero p h = absurd (none-some true h)
no_marks_yet (suc n) zero h = false≢true (same_Some false true h)
no_marks_yet (suc n) (suc p) h = no_marks_yet n p h

-- only places of the entries from number k on are marked
abbrev pub MarkedFrom : List Bool → List Derived → ℕ → Type 0
MarkedFrom marks entries k = (p : ℕ) → slice_get marks p ≡ Some true → (j : ℕ) × (k ≤ j) × (slice_get (derived_places entries) j ≡ Some p)

pub marked_from_first : (marks : List Bool) (entries : List Derived) → AreMarksOf marks (derived_places entries) → MarkedFrom marks entries 0
marked_from_first marks entries h p e = let (j, at) = place_of (derived_places entries) p ((h p).0 e) in (j, omega arith, at)

-- one mark fewer
pub one_unmarked : (marks : List Bool) (entries : List Derived) (k p : ℕ) (d : Derived) → slice_get entries k ≡ Some d → p ≡ d.place →
    MarkedFrom marks entries k → MarkedFrom (slice_set marks p false) entries (k + 1)
one_unmarked marks entries k p d at same h q e = elim (set_cases marks p q false true e) [
  | inl a ↦ absurd (false≢true a.1)
  | inr a ↦
      let (j, low, is) = h q a in
      elim (cases_lt k j) [
        | inl l ↦ (j, omega arith, is)
        | inr l ↦
            let here : j ≡ k = omega arith in
            let place = derived_at entries k d at in
            let one : p ≡ q = same ∙ same_Some d.place q (sym place ∙ subst (λ z. slice_get (derived_places entries) z ≡ Some q) here is) in
            let off = get-set_same marks q true false a in
            absurd (false≢true (same_Some false true (sym off ∙ subst (λ z. slice_get (slice_set marks z false) q ≡ Some true) one e)))
      ]
]

pub all_unmarked : (marks : List Bool) (entries : List Derived) (k : ℕ) → length entries ≤ k → MarkedFrom marks entries k → IsUnmarked marks
all_unmarked marks entries k past h p e =
    let (j, low, is) = h p e in
    omega (arith, past, low, slice_get_within (derived_places entries) j p is, length-map entries (λ (d : Derived). d.place))

-- a marked place is in the trace
pub marked_within : (marks : List Bool) (entries : List Derived) (k p : ℕ) (d : Derived) → slice_get entries k ≡ Some d → p ≡ d.place →
    AreMarksOf marks (derived_places entries) → p < length marks
marked_within marks entries k p d at same h =
    slice_get_within marks p true ((h p).1 (contains_at (derived_places entries) p k
    (subst (λ z. slice_get (derived_places entries) k ≡ Some z) (sym same) (derived_at entries k d at))))
