-- Tests of the numbers of a row, one after the other.
use Rattle.std.proofs.Common.{◌≡◌, ℕ, Bool, ◌+◌, ◌<◌, ◌≤◌, ◌↔◌, ◌⊎◌, List, length, get_or, map, slice_get, MatchOption, Option, Some, None, inl, inr, refl, sym, ap, subst, ◌∙◌, arith}
use Rattle.std.specs.Prelude.{IsTrue, option_map}
use Rattle.std.specs.List.{Contains}
use Rattle.std.proofs.lemmas.Option.{none-some, same_Some, slice_get-get_or, slice_get-map, slice_get_within}
use Rattle.trace_model.specs.Theory.Trace.{Trace}
use Rattle.trace_model.specs.Theory.Dependencies.{Dependency, dependencies}
use Rattle.trace_model.specs.Theory.Cycles.{Member as HasMember, next}
use Rattle.dependencies.specs.Tables.{HasNumber}
use Rattle.event_files.specs.ExplainedText.{StatedCycle, StatedMember, stated_member}
use Rattle.event_files.specs.declared.explanations.ExplainedMember.{ExplainedMember}
use Rattle.trace_model.specs.Theory.Held.{has}
use Rattle.held_sets.proofs.Locks.{contains_has, has_contains}
use Rattle.commands.specs.ExplainedRows.{AreDistinctMembers, FailsFirst, HasPlaceAt, HoldsAtEach, IsLinked, IsPlaced, States, stated_dependency}

-- The test holds at each index below n.
abbrev pub HoldsBelow : List ℕ → (ℕ → ℕ → Type 0) → ℕ → Type 0
HoldsBelow numbers Test n = (j m : ℕ) → j < n → slice_get numbers j ≡ Some m → Test j m

pub less_or_same : (j i : ℕ) → j < i + 1 → (j < i) ⊎ (j ≡ i)
less_or_same j i h = grind arith

pub less_or_more : (j i : ℕ) → (j < i) ⊎ (i ≤ j)
less_or_more j i = grind arith

-- The number at an index within the list.
pub number_at : (numbers : List ℕ) (i : ℕ) → i < length numbers → slice_get numbers i ≡ Some (get_or numbers i 0)
number_at numbers i within = slice_get-get_or numbers i 0 within

pub holds_none : (numbers : List ℕ) (Test : ℕ → ℕ → Type 0) → HoldsBelow numbers Test 0
holds_none numbers Test j m below at = absurd (omega (arith, below))

pub holds_more : (numbers : List ℕ) (Test : ℕ → ℕ → Type 0) (i m : ℕ) → slice_get numbers i ≡ Some m → HoldsBelow numbers Test i → Test i m → HoldsBelow numbers Test (i + 1)
holds_more numbers Test i m here before holds j n below at = elim (less_or_same j i below) [
  | inl less ↦ before j n less at
  | inr same ↦ subst (λ k. Test k n) (sym same) (subst (Test i) (same_Some m n (sym here ∙ ap (slice_get numbers) (sym same) ∙ at)) holds)
]

pub holds_all : (numbers : List ℕ) (Test : ℕ → ℕ → Type 0) (n : ℕ) → length numbers ≤ n → HoldsBelow numbers Test n → HoldsAtEach numbers Test
holds_all numbers Test n past holds i m at = holds i m (omega (arith, past, slice_get_within numbers i m at)) at

pub fails_at : (numbers : List ℕ) (Test : ℕ → ℕ → Type 0) (i m : ℕ) → slice_get numbers i ≡ Some m → HoldsBelow numbers Test i → (Test i m → ⊥) → FailsFirst numbers Test i m
fails_at numbers Test i m here before fails = record { here = here; fails = fails; before = before }

-- ---- members

-- The member of a row at an index.
pub member_at : (members : List ExplainedMember) (i : ℕ) (m : ExplainedMember) → slice_get members i ≡ Some m → slice_get (map stated_member members) i ≡ Some (stated_member m)
member_at members i m at = slice_get-map stated_member members i ∙ ap (option_map stated_member) at

pub states_so : (ds : List Dependency) (r : StatedCycle) (i m : ℕ) (member : StatedMember) (d : Dependency) → slice_get r.members i ≡ Some member → slice_get ds m ≡ Some d → stated_dependency member ≡ d → States ds r i m
states_so ds r i m member d here there same = (member, here, there ∙ ap Some (sym same))

pub states_not : (ds : List Dependency) (r : StatedCycle) (i m : ℕ) (member : StatedMember) (d : Dependency) → slice_get r.members i ≡ Some member → slice_get ds m ≡ Some d → (stated_dependency member ≡ d → ⊥) → States ds r i m → ⊥
states_not ds r i m member d here there other (own, at, states) =
    other (ap stated_dependency (same_Some member own (sym here ∙ at)) ∙ same_Some (stated_dependency own) d (sym states ∙ there))

-- ---- places

pub placed_none : (s : Trace) (r : StatedCycle) (i m : ℕ) (member : StatedMember) → slice_get r.members i ≡ Some member → member.place ≡ None → IsPlaced s r i m
placed_none s r i m member here none p (own, at, place) =
    absurd (none-some p (sym none ∙ ap (λ (x : StatedMember). x.place) (same_Some member own (sym here ∙ at)) ∙ place))

pub placed_so : (s : Trace) (r : StatedCycle) (i m p : ℕ) (member : StatedMember) → slice_get r.members i ≡ Some member → member.place ≡ Some p → HasNumber s (dependencies s) p m → IsPlaced s r i m
placed_so s r i m p member here some has q (own, at, place) =
    let same = same_Some p q (sym some ∙ ap (λ (x : StatedMember). x.place) (same_Some member own (sym here ∙ at)) ∙ place) in
    subst (λ x. HasNumber s (dependencies s) x m) same has

pub misplaced : (s : Trace) (r : StatedCycle) (i m p : ℕ) → HasPlaceAt r i p → (HasNumber s (dependencies s) p m → ⊥) → IsPlaced s r i m → ⊥
misplaced s r i m p has other placed = other (placed p has)

-- ---- the row

-- There is no other case than `None`.
pub when_none : {X : Type 0} (o : Option X) (A : Type 0) (P : X → Type 0) → ((x : X) → o ≡ Some x → ⊥) → MatchOption o A P → A
when_none None A P none m = m
when_none (Some x) A P none m = absurd (none x refl)

-- ---- members of a cycle

-- The dependency of a member.
pub member_is : (ds : List Dependency) (numbers : List ℕ) (i m : ℕ) (d b : Dependency) → slice_get numbers i ≡ Some m → slice_get ds m ≡ Some d → HasMember ds numbers i b → d ≡ b
member_is ds numbers i m d b at there (n, also, has) = same_Some d b (sym there ∙ ap (slice_get ds) (same_Some m n (sym at ∙ also)) ∙ has)

pub apart_iff : (a b : Dependency) (outcome : Bool) → (a.thread ≡ b.thread → ⊥) → (a.lock ≡ b.lock → ⊥) → IsTrue outcome ↔ ((l : ℕ) → Contains a.held l → Contains b.held l → ⊥) → IsTrue outcome ↔ AreDistinctMembers a b
apart_iff a b outcome threads locks held = (λ t. record { threads = threads; locks = locks; held = held.0 t }, λ apart. held.1 apart.held)

pub apart_more : (ds : List Dependency) (numbers : List ℕ) (i n : ℕ) (x y : Dependency) → HasMember ds numbers n x → HasMember ds numbers i y → AreDistinctMembers x y →
    ((j : ℕ) (a b : Dependency) → j < n → HasMember ds numbers j a → HasMember ds numbers i b → AreDistinctMembers a b) →
    (j : ℕ) (a b : Dependency) → j < n + 1 → HasMember ds numbers j a → HasMember ds numbers i b → AreDistinctMembers a b
apart_more ds numbers i n x y at here apart before j a b below first second = elim (less_or_same j n below) [
  | inl less ↦ before j a b less first second
  | inr same ↦
      let one = member_is ds numbers n at.0 x a at.1 at.2 (subst (λ k. HasMember ds numbers k a) same first) in
      let two = member_is ds numbers i here.0 y b here.1 here.2 second in
      subst (λ d. AreDistinctMembers d b) one (subst (AreDistinctMembers x) two apart)
]

pub linked_iff : (ds : List Dependency) (numbers : List ℕ) (i n m k : ℕ) (a b : Dependency) (outcome : Bool) → slice_get numbers i ≡ Some m → slice_get ds m ≡ Some a → next numbers i ≡ n →
    slice_get numbers n ≡ Some k → slice_get ds k ≡ Some b → outcome ≡ has a.lock b.held → IsTrue outcome ↔ IsLinked ds numbers i
linked_iff ds numbers i n m k a b outcome at there after next_at next_there is = (
  λ t x y first second.
      let one = member_is ds numbers i m a x at there first in
      let two = member_is ds numbers n k b y next_at next_there (subst (λ j. HasMember ds numbers j y) after second) in
      subst (λ (d : Dependency). Contains d.held x.lock) two (subst (λ (d : Dependency). Contains b.held d.lock) one (has_contains a.lock b.held (sym is ∙ t))),
  λ linked.
      is ∙ contains_has a.lock b.held (linked a b (m, at, there) (subst (λ j. HasMember ds numbers j b) (sym after) (k, next_at, next_there))),
)
