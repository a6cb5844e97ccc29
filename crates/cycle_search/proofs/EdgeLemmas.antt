-- Numbers along the edges of the first dependencies.
use Rattle.std.proofs.Common.{◌≡◌, ℕ, zero, suc, ◌+◌, ◌<◌, ◌≤◌, Bool, true, inl, inr, List, [], ◌∷◌, length, slice_get, slice_set, get_or, Some, refl, sym, ◌∙◌, subst, arith, ◌++◌, ap, ltb}
use Rattle.std.proofs.lemmas.Bool.{cases_lt}
use Rattle.std.proofs.lemmas.Option.{none-some, same_Some, slice_get_within}
use Rattle.std.specs.List.{filter, Contains}
use Rattle.trace_model.specs.Theory.Dependencies.{Dependency}
use Rattle.trace_model.proofs.Lists.{get-push}
use Rattle.lock_graph.specs.declared.graph.LockGraph.{LockGraph}
use Rattle.lock_graph.specs.Graph.{HasGraphOf, holders}
use Rattle.cycle_search.specs.LockNumbers.{AreLockNumbers}
use Rattle.cycle_search.specs.Edges.{AreHolders, IsRepeated}
use Rattle.cycle_search.proofs.Paths.{found}

-- A property of the edges from a dependency.
abbrev pub EdgesFrom : List Dependency → ℕ → (ℕ → Type 0) → Type 0
EdgesFrom ds m P = (n : ℕ) (a b : Dependency) → slice_get ds m ≡ Some a → slice_get ds n ≡ Some b → Contains b.held a.lock → P n

-- The successors have the property.
pub edges-held : (ds : List Dependency) (m : ℕ) (numbers : List ℕ) (P : ℕ → Type 0) → AreHolders ds m numbers → ((n : ℕ) → Contains numbers n → P n) → EdgesFrom ds m P
edges-held ds m numbers P are all n a b x y holds = all n ((are.exact a x n).1 (b, y, holds))

-- A successor is a dependency.
pub held-known : (ds : List Dependency) (m : ℕ) (numbers : List ℕ) → m < length ds → AreHolders ds m numbers → (n : ℕ) → Contains numbers n → n < length ds
held-known ds m numbers inside are n c =
    let (a, at) = found ds m inside in
    let (b, here, holds) = (are.exact a at n).0 c in
    slice_get_within ds n b here

-- A repeated dependency has the edges of an earlier one.
pub edges-repeated : (ds : List Dependency) (values : List ℕ) (m : ℕ) (P : ℕ → Type 0) → (r : IsRepeated ds values m) → m < length ds → EdgesFrom ds r.first P → EdgesFrom ds m P
edges-repeated ds values m P r inside all n a b x y holds =
    let before = r.before in
    let (e, at) = found ds r.first (omega (arith, before, inside)) in
    all n e b at y (subst (λ l. Contains b.held l) (sym (r.same_lock e a at x)) holds)

-- Along the edges from the first `i` dependencies the value falls by at most `step`.
abbrev pub FallBefore : List Dependency → List ℕ → ℕ → ℕ → ℕ → Type 0
FallBefore ds values from step i = (m : ℕ) → m < i → EdgesFrom ds m (λ n. from ≤ n → get_or values m 0 ≤ get_or values n 0 + step)

-- The successors with the value of one of the first `i` dependencies are marked.
abbrev pub MarkedBefore : List Dependency → List ℕ → List Bool → ℕ → Type 0
MarkedBefore ds values marks i = (m : ℕ) → m < i → EdgesFrom ds m (λ n. get_or values m 0 ≡ get_or values n 0 → slice_get marks n ≡ Some true)

pub fall-more : (ds : List Dependency) (values : List ℕ) (from step i : ℕ) → FallBefore ds values from step i →
    EdgesFrom ds i (λ n. from ≤ n → get_or values i 0 ≤ get_or values n 0 + step) → FallBefore ds values from step (i + 1)
fall-more ds values from step i before here m below = elim (cases_lt m i) [
  | inl less ↦ before m less
  | inr more ↦ let same : i ≡ m = omega arith in subst (λ k. EdgesFrom ds k (λ n. from ≤ n → get_or values k 0 ≤ get_or values n 0 + step)) same here
]

pub fall-repeated : (ds : List Dependency) (values : List ℕ) (from step i : ℕ) → i < length ds → FallBefore ds values from step i → IsRepeated ds values i →
    FallBefore ds values from step (i + 1)
fall-repeated ds values from step i inside before r =
    fall-more ds values from step i before (subst (λ v. EdgesFrom ds i (λ n. from ≤ n → v ≤ get_or values n 0 + step)) r.same_value
    (edges-repeated ds values i (λ n. from ≤ n → get_or values r.first 0 ≤ get_or values n 0 + step) r inside (before r.first r.before)))

pub fall-tested : (ds : List Dependency) (values numbers : List ℕ) (from step least i : ℕ) → AreHolders ds i numbers → get_or values i 0 ≤ least + step →
    ((n : ℕ) → Contains numbers n → from ≤ n → least ≤ get_or values n 0) → FallBefore ds values from step i → FallBefore ds values from step (i + 1)
fall-tested ds values numbers from step least i are low all before =
    fall-more ds values from step i before (edges-held ds i numbers (λ n. from ≤ n → get_or values i 0 ≤ get_or values n 0 + step) are
    (λ n c above. omega (arith, low, all n c above)))

pub marked-more : (ds : List Dependency) (values : List ℕ) (marks : List Bool) (i : ℕ) → MarkedBefore ds values marks i →
    EdgesFrom ds i (λ n. get_or values i 0 ≡ get_or values n 0 → slice_get marks n ≡ Some true) → MarkedBefore ds values marks (i + 1)
marked-more ds values marks i before here m below = elim (cases_lt m i) [
  | inl less ↦ before m less
  | inr more ↦ let same : i ≡ m = omega arith in subst (λ k. EdgesFrom ds k (λ n. get_or values k 0 ≡ get_or values n 0 → slice_get marks n ≡ Some true)) same here
]

pub marked-repeated : (ds : List Dependency) (values : List ℕ) (marks : List Bool) (i : ℕ) → i < length ds → MarkedBefore ds values marks i → IsRepeated ds values i →
    MarkedBefore ds values marks (i + 1)
marked-repeated ds values marks i inside before r =
    marked-more ds values marks i before (subst (λ v. EdgesFrom ds i (λ n. v ≡ get_or values n 0 → slice_get marks n ≡ Some true)) r.same_value
    (edges-repeated ds values i (λ n. get_or values r.first 0 ≡ get_or values n 0 → slice_get marks n ≡ Some true) r inside (before r.first r.before)))

pub marked-set : (ds : List Dependency) (values numbers : List ℕ) (old new : List Bool) (i value : ℕ) → AreHolders ds i numbers → value ≡ get_or values i 0 →
    ((n : ℕ) → slice_get old n ≡ Some true → slice_get new n ≡ Some true) → ((n : ℕ) → Contains numbers n → get_or values n 0 ≡ value → slice_get new n ≡ Some true) →
    MarkedBefore ds values old i → MarkedBefore ds values new (i + 1)
marked-set ds values numbers old new i value are is kept marked before =
    marked-more ds values new i (λ m less n a b x y holds same. kept n (before m less n a b x y holds same))
    (edges-held ds i numbers (λ n. get_or values i 0 ≡ get_or values n 0 → slice_get new n ≡ Some true) are
    (λ n c same. marked n c (sym same ∙ sym is)))

pub set-marked : (marks : List Bool) (i : ℕ) → i < length marks → slice_get (slice_set marks i true) i ≡ Some true
set-marked [] i l = absurd (omega arith)
set-marked (x ∷ marks) zero l = refl
set-marked (x ∷ marks) (suc i) l = set-marked marks i (omega arith)

pub set-kept : (marks : List Bool) (i n : ℕ) → slice_get marks n ≡ Some true → slice_get (slice_set marks i true) n ≡ Some true
set-kept [] i n h = absurd (none-some true h)
set-kept (x ∷ marks) zero zero h = refl
set-kept (x ∷ marks) zero (suc n) h = h
set-kept (x ∷ marks) (suc i) zero h = h
set-kept (x ∷ marks) (suc i) (suc n) h = set-kept marks i n h

-- A lock that the graph does not list is held by none.
pub numbered-none : (ds : List Dependency) (g : LockGraph) → HasGraphOf ds g → (lock : ℕ) → holders g lock ≡ [] →
    (n : ℕ) (b : Dependency) → slice_get ds n ≡ Some b → Contains b.held lock → ⊥
numbered-none ds g has lock none n b at holds =
    let (k, l, e) = subst (λ (xs : List ℕ). Contains (filter (λ m. ltb m (length ds)) xs) n) none ((has.below.exact lock n).1 (b, at, holds)) in
    omega (arith, l)

-- One more position.
pub numbered-more : (ds : List Dependency) (positions : List ℕ) (i position : ℕ) (d : Dependency) → length positions ≡ i → slice_get ds i ≡ Some d →
    (position ≡ 4294967295 → (n : ℕ) (b : Dependency) → slice_get ds n ≡ Some b → Contains b.held d.lock → ⊥) →
    AreLockNumbers ds positions → AreLockNumbers ds (positions ++ position ∷ [])
numbered-more ds positions i position d each at none before m n a b here x y holds = elim (get-push positions position m 4294967295 here) [
  | inl u ↦ before m n a b u x y holds
  | inr u ↦
      let same : i ≡ m = omega (arith, each, u.0) in
      let is : d ≡ a = same_Some d a (sym at ∙ ap (slice_get ds) same ∙ x) in
      none u.1 n b y (subst (λ (z : Dependency). Contains b.held z.lock) (sym is) holds)
]
