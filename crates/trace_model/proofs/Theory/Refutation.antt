-- A cycle with a refutation is not confirmed.
use Rattle.std.proofs.Common.{◌≡◌, ℕ, zero, suc, ◌<◌, ◌≤◌, ◌⊎◌, inl, inr, List, [], ◌∷◌, ◌++◌, length, take, get_or, slice_get, slice_set, Option, Some, None, MatchOption, refl, sym, ap, subst, ◌∙◌, arith}
use Rattle.std.proofs.lemmas.Bool.{cases_lt}
use Rattle.std.proofs.lemmas.List.{length-set}
use Rattle.std.proofs.lemmas.Option.{none-some, same_Some, slice_get_within, slice_get-get_or}
use Rattle.std.proofs.lemmas.List.Elements.{Contains-push}
use Rattle.std.specs.List.{Contains}
use Rattle.trace_model.specs.declared.refutations.Reason.{Reason}
use Rattle.trace_model.specs.declared.refutations.Reason.TheVariants.{BeforeMember, ThreadOrder, ForkJoin, ReadsFrom, Sections}
use Rattle.trace_model.specs.declared.refutations.Derived.{Derived}
use Rattle.trace_model.specs.declared.refutations.RefutationStep.{RefutationStep}
use Rattle.trace_model.specs.declared.traces.event.Op.TheVariants.{Acquire}
use Rattle.trace_model.specs.Theory.Trace.{Trace, OfThread}
use Rattle.trace_model.specs.Theory.Closure.{InClosure}
use Rattle.trace_model.specs.Theory.Dependencies.{Dependency, dependency_at, dependencies}
use Rattle.trace_model.specs.Theory.Cycles.{Member, IsInstance, IsConfirmed}
use Rattle.trace_model.specs.Theory.Reordering.{AreReached}
use Rattle.trace_model.specs.Theory.Rows.{NoLater}
use Rattle.trace_model.specs.Theory.Laws.{OfSameThreads}
use Rattle.trace_model.specs.Theory.Refutation.{Justifies, derived_places, IsDerivation, EndsAt, IsFirstFrom, AreFirstPlaces, Refutes, IsRefutation}
use Rattle.trace_model.proofs.Lists.{get-take, get-take_past, take_next, take-take_below}
use Rattle.trace_model.proofs.Theory.Ascending.{place_of}
use Rattle.trace_model.proofs.Theory.Dependencies.{dependency_so}
use Rattle.trace_model.proofs.Theory.Derivable.{derived_push}
use Rattle.trace_model.proofs.Theory.Pointers.{caught_is_early}

-- a place with a reason is in the closure, if the places before it are
justified_in_closure : (s : Trace) (places derived : List ℕ) → ((q : ℕ) → Contains derived q → InClosure s places q) →
    (r : Reason) (p : ℕ) → Justifies s places derived r p → InClosure s places p
justified_in_closure s places derived f (BeforeMember q) p (c, e) = λ set closed holds. holds q p c e
justified_in_closure s places derived f (ThreadOrder q) p (c, e) = λ set closed holds. closed.threads p q (f q c set closed holds) e
justified_in_closure s places derived f (ForkJoin q) p (c, e) = λ set closed holds. closed.forks_joins p q (f q c set closed holds) e
justified_in_closure s places derived f (ReadsFrom q) p (c, e) = λ set closed holds. closed.writers p q (f q c set closed holds) e
justified_in_closure s places derived f (Sections a b) p (c, d, l, (k, x, y), e) = λ set closed holds.
    closed.sections a b p k l x y (f a c set closed holds) (f b d set closed holds) e

-- the entry of a derived place
pub entry_of : (entries : List Derived) (i q : ℕ) → slice_get (derived_places entries) i ≡ Some q →
    (d : Derived) × (slice_get entries i ≡ Some d) × (d.place ≡ q)
entry_of [] i q h = absurd (none-some q h)
entry_of (d ∷ entries) zero q h = (d, refl, same_Some d.place q h)
entry_of (d ∷ entries) (suc i) q h = entry_of entries i q h

first_derived : (s : Trace) (places : List ℕ) (entries : List Derived) → IsDerivation s places entries →
    (n k : ℕ) (d : Derived) → k < n → slice_get entries k ≡ Some d → InClosure s places d.place
first_derived s places entries h zero k d l e = absurd (omega arith)
first_derived s places entries h (suc n) k d l e =
    justified_in_closure s places (derived_places (take k entries))
    (λ q c.
    let (i, a) = place_of (derived_places (take k entries)) q c in
    let (x, b, m) = entry_of (take k entries) i q a in
    let low = get-take_past k entries i x b in
    subst (InClosure s places) m (first_derived s places entries h n i x (omega (arith, l, low)) (sym (get-take k entries i low) ∙ b)))
    d.reason d.place (h k d e)

-- the last place of a derivation is derived
pub end_is_derived : (entries : List Derived) (p : ℕ) → EndsAt entries p → Contains (derived_places entries) p
end_is_derived entries p (before, d, whole, same) =
    let split : derived_places entries ≡ derived_places before ++ d.place ∷ [] = ap derived_places whole ∙ derived_push before d in
    subst (λ xs. Contains xs p) (sym split) (subst (Contains (derived_places before ++ d.place ∷ [])) same (Contains-push (derived_places before) d.place))

-- the beginning of a derivation that ends at one of its places
pub ending_at : (s : Trace) (places : List ℕ) (entries : List Derived) (p : ℕ) → IsDerivation s places entries → Contains (derived_places entries) p →
    (first : List Derived) × IsDerivation s places first × EndsAt first p
ending_at s places entries p h c =
    let (i, a) = place_of (derived_places entries) p c in
    let (x, at, same) = entry_of entries i p a in (
      take (suc i) entries,
      λ k d e.
          let low = get-take_past (suc i) entries k d e in
          subst (λ xs. Justifies s places (derived_places xs) d.reason d.place) (sym (take-take_below k (suc i) entries low))
          (h k d (sym (get-take (suc i) entries k low) ∙ e)),
      (take i entries, x, take_next i entries x at, same),
    )

pub derived_in_closure : (s : Trace) (places : List ℕ) (entries : List Derived) → IsDerivation s places entries →
    (p : ℕ) → Contains (derived_places entries) p → InClosure s places p
derived_in_closure s places entries h p c =
    let (i, a) = place_of (derived_places entries) p c in
    let (x, b, m) = entry_of entries i p a in
    subst (InClosure s places) m (first_derived s places entries h (suc i) i x (omega arith) b)

-- the present places of the members
pub record ArePresent (s : Trace) (numbers places : List ℕ) : Type 0 where
  pub as_many : length places ≡ length numbers
  pub members : (i p : ℕ) → slice_get places i ≡ Some p →
      (d : Dependency) × Member (dependencies s) numbers i d × (dependency_at s p ≡ Some d)

pub same_member : (ds : List Dependency) (numbers : List ℕ) (i : ℕ) (d e : Dependency) → Member ds numbers i d → Member ds numbers i e → d ≡ e
same_member ds numbers i d e (m, a, b) (n, x, y) =
    let same : m ≡ n = same_Some m n (sym a ∙ x) in
    same_Some d e (sym b ∙ subst (λ k. slice_get ds k ≡ Some e) (sym same) y)

-- an element after one was replaced
pub set_cases : {X : Type 0} (xs : List X) (i j : ℕ) (y z : X) → slice_get (slice_set xs i y) j ≡ Some z →
    ((j ≡ i) × (y ≡ z)) ⊎ (slice_get xs j ≡ Some z)
set_cases [] i j y z h = absurd (none-some z h)
set_cases (x ∷ xs) zero zero y z h = inl (refl, same_Some y z h)
set_cases (x ∷ xs) zero (suc j) y z h = inr h
set_cases (x ∷ xs) (suc i) zero y z h = inr h
set_cases (x ∷ xs) (suc i) (suc j) y z h = elim (set_cases xs i j y z h) [
  | inl a ↦ inl (ap suc a.0, a.1)
  | inr b ↦ inr b
]

-- the member moves to a place of its dependency
pub present_moves : (s : Trace) (numbers places : List ℕ) (i q : ℕ) (d : Dependency) → ArePresent s numbers places →
    Member (dependencies s) numbers i d → dependency_at s q ≡ Some d → ArePresent s numbers (slice_set places i q)
present_moves s numbers places i q d h member at = record {
  as_many = length-set places i q ∙ h.as_many;
  members = λ j p e. elim (set_cases places i j q p e) [
    | inl a ↦ (d, subst (λ k. Member (dependencies s) numbers k d) (sym a.0) member, subst (λ x. dependency_at s x ≡ Some d) a.1 at)
    | inr b ↦ h.members j p b
  ];
}

pub first_present : (s : Trace) (numbers places : List ℕ) → AreFirstPlaces s numbers places → ArePresent s numbers places
first_present s numbers places h = record {
  as_many = h.0;
  members = λ i p e. let (d, member, is) = h.1 i p e in (d, member, is.1);
}

pub of_its_thread : (s : Trace) (p : ℕ) (d : Dependency) → dependency_at s p ≡ Some d → OfThread s p d.thread
of_its_thread s p d h = (Acquire d.lock, (dependency_so s p d h).0.0)

-- a member that moves does not pass its place in a reached instance
next_not_passed : (s : Trace) (numbers others places : List ℕ) (steps : List RefutationStep) (i q y : ℕ) (d : Dependency) (next : Option ℕ) →
    NoLater places others → slice_get others i ≡ Some y → dependency_at s y ≡ Some d → q < y → IsFirstFrom s d (suc q) next →
    MatchOption next (steps ≡ []) (λ x. Refutes s numbers (slice_set places i x) steps) →
    ((x : ℕ) → dependency_at s x ≡ Some d → NoLater (slice_set places i x) others → Refutes s numbers (slice_set places i x) steps → ⊥) → ⊥
next_not_passed s numbers others places steps i q y d None later at dep past none then more = none y past dep
next_not_passed s numbers others places steps i q y d (Some x) later at dep past (low, is, least) then more =
    let reached : x ≤ y = elim (cases_lt y x) [ inl l ↦ absurd (least y past l dep) | inr l ↦ l ] in
    more x is (λ k a b ha hb. elim (set_cases places i k x a ha) [
      | inl e ↦
          let same : y ≡ b = same_Some y b (sym at ∙ subst (λ j. slice_get others j ≡ Some b) e.0 hb) in
          omega (arith, reached, same, e.1)
      | inr e ↦ later k a b e hb
    ]) then

-- the steps cannot pass a reached instance
not_passed : (s : Trace) (numbers others : List ℕ) → IsInstance s numbers others → AreReached s others → (steps : List RefutationStep) (places : List ℕ) →
    ArePresent s numbers places → NoLater places others → Refutes s numbers places steps → ⊥
not_passed s numbers others is reached [] places h later r = r
not_passed s numbers others is reached (step ∷ steps) places h later (next, (p, at, derivation, ends), (q, d, at_q, member, first), then) =
    let i = step.member in
    let len : length places ≡ length others = h.as_many ∙ sym is.0 in
    let inside : i < length others = omega (arith, slice_get_within places i p at, len) in
    let y = get_or others i 0 in
    let at_y : slice_get others i ≡ Some y = slice_get-get_or others i 0 inside in
    let dep_y : dependency_at s y ≡ Some d = is.1 i member.0 y d member.1 member.2 at_y in
    let threads : OfSameThreads s places others = λ k x z a b.
    let (e, m, dep) = h.members k x a in
    (e.thread, of_its_thread s x e dep, of_its_thread s z e (is.1 k m.0 z e m.1 m.2 b)) in
    let early : p < y = caught_is_early s places others len threads later reached i p y at at_y
    (derived_in_closure s places step.derivation derivation p (end_is_derived step.derivation p ends)) in
    let same : p ≡ q = same_Some p q (sym at ∙ at_q) in
    next_not_passed s numbers others places steps i q y d next later at_y dep_y (omega (arith, early, same)) first then
    (λ x e. not_passed s numbers others is reached steps (slice_set places i x) (present_moves s numbers places i x d h member e))

-- the first places are no later than those of any instance
first_no_later : (s : Trace) (numbers places others : List ℕ) → AreFirstPlaces s numbers places → IsInstance s numbers others → NoLater places others
first_no_later s numbers places others h is k x y a b =
    let (d, m, first) = h.1 k x a in
    let dep = is.1 k m.0 y d m.1 m.2 b in
    elim (cases_lt y x) [ inl l ↦ absurd (first.2 y (omega arith) l dep) | inr l ↦ l ]

pub refuted_not_confirmed : (s : Trace) (numbers : List ℕ) (steps : List RefutationStep) → IsRefutation s numbers steps → IsConfirmed s numbers → ⊥
refuted_not_confirmed s numbers steps (places, first, r) (others, is, reached) =
    not_passed s numbers others is reached steps places (first_present s numbers places first) (first_no_later s numbers places others first is) r
