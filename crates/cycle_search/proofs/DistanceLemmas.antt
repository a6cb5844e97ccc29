-- A member of a cycle is followed by at least as many members as its distance.
use Rattle.std.proofs.Common.{◌≡◌, ℕ, zero, suc, ◌+◌, ◌<◌, ◌≤◌, List, [], ◌∷◌, ◌++◌, length, slice_get, get_or, Some, sym, ◌∙◌, subst, arith}
use Rattle.std.proofs.lemmas.Option.{slice_get-get_or, get_or_from_slice_get}
use Rattle.std.proofs.lemmas.List.{length-append}
use Rattle.trace_model.specs.Theory.Dependencies.{Dependency}
use Rattle.trace_model.specs.Theory.Cycles.{Member, IsCycle}
use Rattle.trace_model.proofs.Theory.Unique.{contains_had}
use Rattle.cycle_search.specs.CycleSearch.{CycleThrough, AreAll}
use Rattle.cycle_search.specs.Distances.{AreDistances}
use Rattle.cycle_search.proofs.Listing.{all-none, get-left}
use Rattle.cycle_search.proofs.Paths.{found, all-from, member-at, next-inside, next-last, at-end}

module _ (ds : List Dependency) (bound root : ℕ) (distances : List ℕ) (are : AreDistances ds root distances)
    (numbers : List ℕ) (c : IsCycle ds bound numbers) (head : slice_get numbers 0 ≡ Some root) where
  member : (i : ℕ) → i < length numbers → (d : Dependency) × Member ds numbers i d
  member = member-at ds numbers (all-from (λ m. m < length ds) numbers (λ k m h. c.known m (contains_had numbers m (k, h))))

  after : (k i : ℕ) (d : Dependency) (x : Member ds numbers i d) → suc i + k ≡ length numbers → get_or distances x.0 0 ≤ k
  after zero i d x e =
      let first = member 0 (omega (arith, e)) in
      let holds = c.linked i d first.0 x (subst (λ j. Member ds numbers j first.0) (sym (next-last numbers i (omega (arith, e)))) first.1) in
      let one = get_or_from_slice_get numbers 0 root 0 head in
      let at : first.1.0 ≡ root = sym (get_or_from_slice_get numbers 0 first.1.0 0 first.1.1) ∙ one in
      let none : get_or distances x.0 0 ≡ 0 = are.home x.0 d first.0 x.2 (subst (λ n. slice_get ds n ≡ Some first.0) at first.1.2) holds in
      omega (arith, none)
  after (suc k) i d x e =
      let inside : suc i < length numbers = omega (arith, e) in
      let b = member (suc i) inside in
      let holds = c.linked i d b.0 x (subst (λ j. Member ds numbers j b.0) (sym (next-inside numbers i inside)) b.1) in
      let above = c.least_first root b.1.0 head (contains_had numbers b.1.0 (suc i, b.1.1)) in
      let near : get_or distances x.0 0 ≤ suc (get_or distances b.1.0 0) = are.along x.0 b.1.0 d b.0 above x.2 b.1.2 holds in
      omega (arith, near, after k (suc i) b.0 b.1 (omega (arith, e)))

-- No cycle continues with a number that too many members must follow.
pub too-far : (ds : List Dependency) (bound : ℕ) (path : List ℕ) (m : ℕ) (distances : List ℕ) → 0 < length path → AreDistances ds (get_or path 0 0) distances →
    m < length ds → bound ≤ length path + get_or distances m 0 → AreAll (CycleThrough ds bound path m) []
too-far ds bound path m distances begun are known far = all-none (CycleThrough ds bound path m) (λ n h.
    let rest = h.1.0 in
    let numbers = path ++ m ∷ rest in
    let c : IsCycle ds bound numbers = subst (λ x. IsCycle ds bound x) h.1.1 h.0 in
    let head = get-left path (m ∷ rest) 0 (get_or path 0 0) (slice_get-get_or path 0 0 begun) in
    let d = found ds m known in
    let long = length-append path (m ∷ rest) in
    omega (arith, long, c.at_most, far, after ds bound (get_or path 0 0) distances are numbers c head (length rest) (length path) d.0 (m, at-end path m rest, d.1) (omega (arith, long))))
