-- The places of dependencies, in order.
use Rattle.std.proofs.Common.{◌≡◌, ℕ, zero, suc, ◌<◌, ◌≤◌, inl, inr, List, [], ◌∷◌, ◌++◌, append_assoc, length, replicate, slice_get, slice_set, Option, Some, None, refl, sym, ap, subst, ◌∙◌, arith}
use Rattle.std.proofs.lemmas.Bool.{cases_lt}
use Rattle.std.proofs.lemmas.List.{length-set}
use Rattle.std.proofs.lemmas.Option.{none-some, same_Some, slice_get_within}
use Rattle.std.specs.List.{Contains}
use Rattle.std.specs.List.Sorted.{IsStrictlyIncreasing}
use Rattle.trace_model.specs.declared.refutations.RefutationStep.{RefutationStep}
use Rattle.trace_model.specs.Theory.Trace.{Trace}
use Rattle.trace_model.specs.Theory.Dependencies.{Dependency, dependency_at, dependencies}
use Rattle.trace_model.specs.Theory.Refutation.{IsFirstFrom, AreFirstPlaces, Derives, IsNextPlace, Refutes}
use Rattle.trace_model.proofs.Lists.{at_index, get-set_same, get-set_other}
use Rattle.trace_model.proofs.Theory.Ascending.{place_of, contains_at}
use Rattle.trace_model.proofs.Theory.Dependencies.{dependency_so, numbered}
use Rattle.trace_model.proofs.Theory.Unique.{increasing_ordered}
use Rattle.dependencies.specs.Tables.{DependencyTable, table_dependencies, dependency_places, AreDependencyNumbers, NumbersWholeTrace}
use Rattle.explain.specs.Moving.{AreEntries, HaveFirst}

-- the places of a number are those of its dependency
pub listed_so : (table : DependencyTable) (s : Trace) → NumbersWholeTrace table s → (m p : ℕ) (d : Dependency) → slice_get (dependencies s) m ≡ Some d →
    Contains (dependency_places table m) p → dependency_at s p ≡ Some d
listed_so table s f m p d at c =
    let (low, (e, is, has)) = (f.1 m p).0 c in
    is ∙ ap Some (same_Some e d (sym has ∙ ap (λ ds. slice_get ds m) f.0 ∙ at))

pub listed_from : (table : DependencyTable) (s : Trace) → NumbersWholeTrace table s → (m p : ℕ) (d : Dependency) → slice_get (dependencies s) m ≡ Some d →
    dependency_at s p ≡ Some d → Contains (dependency_places table m) p
listed_from table s f m p d at is = (f.1 m p).1 (slice_get_within s p _ (dependency_so s p d is).0.0, (d, is, ap (λ ds. slice_get ds m) f.0 ∙ at))

pub some_listed : (table : DependencyTable) (s : Trace) → NumbersWholeTrace table s → (m : ℕ) → m < length (table_dependencies table) → 0 < length (dependency_places table m)
some_listed table s f m low =
    let (d, at) = at_index (dependencies s) m (subst (λ ds. m < length ds) f.0 low) in
    let there = (numbered s (length s)).appears m d at in
    let (k, here) = place_of (dependency_places table m) there.0 (listed_from table s f m there.0 d at there.2) in
    omega (arith, slice_get_within (dependency_places table m) k there.0 here)

-- an entry is the first place from a number on, if it is the first entry that is not below it
first_entry_from : (table : DependencyTable) (s : Trace) → NumbersWholeTrace table s → (m : ℕ) (d : Dependency) → slice_get (dependencies s) m ≡ Some d →
    IsStrictlyIncreasing (dependency_places table m) → (n k : ℕ) → ((j u : ℕ) → slice_get (dependency_places table m) j ≡ Some u → n ≤ u → k ≤ j) →
    ((j u : ℕ) → k ≤ j → slice_get (dependency_places table m) j ≡ Some u → n ≤ u) → IsFirstFrom s d n (slice_get (dependency_places table m) k)
first_entry_from table s f m d at ascends n k after from =
    go (slice_get (dependency_places table m) k) refl
  where
    go : (o : Option ℕ) → slice_get (dependency_places table m) k ≡ o → IsFirstFrom s d n o
    go None e = λ u low is.
        let (j, here) = place_of (dependency_places table m) u (listed_from table s f m u d at is) in
        let past = after j u here low in
        elim (cases_lt k (length (dependency_places table m))) [
          | inl l ↦ let (x, there) = at_index (dependency_places table m) k l in none-some x (sym e ∙ there)
          | inr l ↦ omega (arith, l, past, slice_get_within (dependency_places table m) j u here)
        ]
    go (Some p) e = (
      from k p (omega arith) e,
      listed_so table s f m p d at (contains_at (dependency_places table m) p k e),
      λ u low below is.
          let (j, here) = place_of (dependency_places table m) u (listed_from table s f m u d at is) in
          let past = after j u here low in
          elim (cases_lt k j) [
            | inl l ↦ omega (arith, below, increasing_ordered (dependency_places table m) ascends k j p u l e here)
            | inr l ↦
                let same : j ≡ k = omega (arith, l, past) in
                let place : u ≡ p = same_Some u p (sym here ∙ subst (λ z. slice_get (dependency_places table m) z ≡ Some p) (sym same) e) in
                omega (arith, below, place)
          ],
    )

pub first_of_all : (table : DependencyTable) (s : Trace) → NumbersWholeTrace table s → (m : ℕ) (d : Dependency) → slice_get (dependencies s) m ≡ Some d →
    IsStrictlyIncreasing (dependency_places table m) → IsFirstFrom s d 0 (slice_get (dependency_places table m) 0)
first_of_all table s f m d at ascends = first_entry_from table s f m d at ascends 0 0 (λ j u e l. omega arith) (λ j u l e. omega arith)

pub next_of_entry : (table : DependencyTable) (s : Trace) → NumbersWholeTrace table s → (m : ℕ) (d : Dependency) → slice_get (dependencies s) m ≡ Some d →
    IsStrictlyIncreasing (dependency_places table m) → (k p : ℕ) → slice_get (dependency_places table m) k ≡ Some p → IsFirstFrom s d (suc p) (slice_get (dependency_places table m) (suc k))
next_of_entry table s f m d at ascends k p here = first_entry_from table s f m d at ascends (suc p) (suc k)
    (λ j u e l. elim (cases_lt k j) [
      | inl a ↦ a
      | inr a ↦ elim (cases_lt j k) [
        | inl b ↦ absurd (omega (arith, l, increasing_ordered (dependency_places table m) ascends j k u p b e here))
        | inr b ↦
            let same : j ≡ k = omega arith in
            let place : u ≡ p = same_Some u p (sym e ∙ subst (λ z. slice_get (dependency_places table m) z ≡ Some p) (sym same) here) in
            absurd (omega (arith, l, place))
      ]
    ])
    (λ j u l e. increasing_ordered (dependency_places table m) ascends k j p u l here e)

-- ---- the first places

pub first_are : (table : DependencyTable) (s : Trace) (numbers places : List ℕ) → NumbersWholeTrace table s → AreDependencyNumbers s numbers → length places ≡ length numbers →
    HaveFirst table numbers places (length numbers) → AreFirstPlaces s numbers places
first_are table s numbers places f k len first = (
  len,
  λ i p e.
      let (m, at) = at_index numbers i (omega (arith, len, slice_get_within places i p e)) in
      let (q, here, there, ascends) = first i m (slice_get_within numbers i m at) at in
      let (d, is) = at_index (dependencies s) m (k i m at) in
      let same : slice_get (dependency_places table m) 0 ≡ Some p = there ∙ sym here ∙ e in
      (d, (m, at, is), subst (IsFirstFrom s d 0) same (first_of_all table s f m d is ascends)),
)

pub first_entries : (table : DependencyTable) (numbers places entries : List ℕ) → length places ≡ length numbers → length entries ≡ length numbers →
    HaveFirst table numbers places (length numbers) → ((i e : ℕ) → slice_get entries i ≡ Some e → e ≡ 0) → AreEntries table numbers places entries
first_entries table numbers places entries len many first zeros i m p at here =
    let (q, also, there, ascends) = first i m (slice_get_within numbers i m at) at in
    let (e, is) = at_index entries i (omega (arith, many, slice_get_within numbers i m at)) in
    (e, is, ap (slice_get (dependency_places table m)) (zeros i e is) ∙ there ∙ sym also ∙ here)

-- ---- a member moves

pub entries_move : (table : DependencyTable) (numbers places entries : List ℕ) (i m e q : ℕ) → slice_get numbers i ≡ Some m → i < length entries →
    slice_get (dependency_places table m) e ≡ Some q → AreEntries table numbers places entries →
    AreEntries table numbers (slice_set places i q) (slice_set entries i e)
entries_move table numbers places entries i m e q at within here h j k p number place = elim (cases_lt i j) [
  | inl l ↦ other (λ z. omega (arith, l, z))
  | inr l ↦ elim (cases_lt j i) [
    | inl w ↦ other (λ z. omega (arith, w, z))
    | inr w ↦ moved (omega arith)
  ]
]
  where
    other : (i ≡ j → ⊥) → (x : ℕ) × (slice_get (slice_set entries i e) j ≡ Some x) × (slice_get (dependency_places table k) x ≡ Some p)
    other n =
        let (x, is, there) = h j k p number (sym (get-set_other places i j q n) ∙ place) in
        (x, get-set_other entries i j e n ∙ is, there)

    moved : i ≡ j → (x : ℕ) × (slice_get (slice_set entries i e) j ≡ Some x) × (slice_get (dependency_places table k) x ≡ Some p)
    moved same =
        let number_is : m ≡ k = same_Some m k (sym at ∙ ap (slice_get numbers) same ∙ number) in
        let (x, is) = at_index entries i within in
        let (y, was) = at_index places i (omega (arith, same, length-set places i q, slice_get_within (slice_set places i q) j p place)) in
        let place_is : q ≡ p = same_Some q p (sym (get-set_same places i y q was) ∙ ap (slice_get (slice_set places i q)) same ∙ place) in (
          e,
          ap (slice_get (slice_set entries i e)) (sym same) ∙ get-set_same entries i x e is,
          subst (λ z. slice_get (dependency_places table z) e ≡ Some p) number_is (here ∙ ap Some place_is),
        )

-- ---- the steps so far

-- a step, and what is left after its member moved
pub one_step_more : (s : Trace) (numbers places first : List ℕ) (steps : List RefutationStep) (step : RefutationStep) (q : ℕ) → Derives s places step →
    IsNextPlace s numbers places step.member (Some q) →
    ((rest : List RefutationStep) → Refutes s numbers places rest → Refutes s numbers first (steps ++ rest)) →
    (rest : List RefutationStep) → Refutes s numbers (slice_set places step.member q) rest → Refutes s numbers first ((steps ++ step ∷ []) ++ rest)
one_step_more s numbers places first steps step q derives next h rest r =
    subst (Refutes s numbers first) (sym (append_assoc steps (step ∷ []) rest)) (h (step ∷ rest) (Some q, derives, next, r))

pub last_step : (s : Trace) (numbers places first : List ℕ) (steps : List RefutationStep) (step : RefutationStep) → Derives s places step →
    IsNextPlace s numbers places step.member None →
    ((rest : List RefutationStep) → Refutes s numbers places rest → Refutes s numbers first (steps ++ rest)) → Refutes s numbers first (steps ++ step ∷ [])
last_step s numbers places first steps step derives next h = h (step ∷ []) (None, derives, next, refl)

-- the next place of a member
pub next_is : (table : DependencyTable) (s : Trace) (numbers places entries : List ℕ) (i m e : ℕ) → NumbersWholeTrace table s → AreDependencyNumbers s numbers → slice_get numbers i ≡ Some m →
    IsStrictlyIncreasing (dependency_places table m) → AreEntries table numbers places entries → slice_get entries i ≡ Some e → (p : ℕ) → slice_get places i ≡ Some p →
    IsNextPlace s numbers places i (slice_get (dependency_places table m) (suc e))
next_is table s numbers places entries i m e f k at ascends h is p here =
    let (d, has) = at_index (dependencies s) m (k i m at) in
    let (x, also, there) = h i m p at here in
    let same : x ≡ e = same_Some x e (sym also ∙ is) in
    (p, d, here, (m, at, has), next_of_entry table s f m d has ascends e p (subst (λ z. slice_get (dependency_places table m) z ≡ Some p) same there))

pub all_zero : (n i e : ℕ) → slice_get (replicate n 0) i ≡ Some e → e ≡ 0
all_zero zero i e h = absurd (none-some e h)
all_zero (suc n) zero e h = sym (same_Some 0 e h)
all_zero (suc n) (suc i) e h = all_zero n i e h

pub all_known : (s : Trace) (cycle members : List ℕ) → members ≡ cycle → ((m : ℕ) → Contains cycle m → m < length (dependencies s)) → AreDependencyNumbers s members
all_known s cycle members same table_dependencies i m at = table_dependencies m (subst (λ xs. Contains xs m) same (contains_at members m i at))
