-- If components do not decrease along edges, all members of a cycle have the same one.
use Rattle.std.proofs.Common.{◌≡◌, ℕ, zero, suc, ◌<◌, ◌≤◌, List, [], ◌∷◌, ◌++◌, true, false, eqb, length, map, slice_get, get_or, option_map, Option, Some, None, refl, sym, ap, ◌∙◌, subst, inl, inr, arith}
use Rattle.std.proofs.lemmas.Option.{slice_get_within, same_Some, slice_get-get_or, slice_get-map, get_or_from_slice_get}
use Rattle.std.proofs.lemmas.List.{length-append, length-map}
use Rattle.std.proofs.lemmas.Bool.Decides.{nat_tests}
use Rattle.std.proofs.lemmas.Map.Keys.{IsDistinct-from_apart}
use Rattle.std.proofs.lemmas.Bool.{cases_eq, false≢true}
use Rattle.std.specs.List.{All, Contains, IsDistinct}
use Rattle.trace_model.specs.Theory.Dependencies.{Dependency}
use Rattle.trace_model.specs.Theory.Cycles.{Member, next, IsCycle}
use Rattle.trace_model.proofs.Theory.Unique.{contains_had, has_contained}
use Rattle.cycle_search.specs.CycleSearch.{CycleFrom, CycleThrough, AreAll}
use Rattle.cycle_search.specs.declared.components.Components.{Components}
use Rattle.cycle_search.specs.Components.{AreComponents}
use Rattle.cycle_search.specs.Edges.{FallAtMost, AreSuccessorsMarked}
use Rattle.cycle_search.specs.LockNumbers.{AreLockNumbers}
use Rattle.cycle_search.specs.Acquirers.{AreAcquirers}
use Rattle.cycle_search.specs.ComponentThreads.{AreComponentThreads, HasComponentThread}
use Rattle.cycle_search.proofs.Listing.{all-none, get-left}
use Rattle.cycle_search.proofs.Paths.{found, next-inside, next-last, at-end}

module _ (ds : List Dependency) (bound : ℕ) (numbers : List ℕ) (c : IsCycle ds bound numbers) (components : Components) (are : AreComponents ds components) where
  pub member-of : (i : ℕ) → i < length numbers → (d : Dependency) × Member ds numbers i d
  member-of i l =
      let x = slice_get-get_or numbers i 0 l in
      let d = found ds (get_or numbers i 0) (c.known (get_or numbers i 0) (contains_had numbers (get_or numbers i 0) (i, x))) in
      (d.0, (get_or numbers i 0, x, d.1))

  step : (i j : ℕ) → next numbers i ≡ j → i < length numbers → j < length numbers →
      get_or components.numbers.items (get_or numbers i 0) 0 ≤ get_or components.numbers.items (get_or numbers j 0) 0
  unfolding member-of
  step i j e k l =
      let a = member-of i k in
      let b = member-of j l in
      are.ascend (get_or numbers i 0) (get_or numbers j 0) a.0 b.0 a.1.2 b.1.2
      (c.linked i a.0 b.0 a.1 (subst (λ n. Member ds numbers n b.0) (sym e) b.1))

  is_topological : (i j : ℕ) → i ≤ j → j < length numbers → get_or components.numbers.items (get_or numbers i 0) 0 ≤ get_or components.numbers.items (get_or numbers j 0) 0
  is_topological i zero l inside = let e = ap (λ n. get_or components.numbers.items (get_or numbers n 0) 0) (let same : i ≡ 0 = omega arith in same) in omega (arith, e)
  is_topological i (suc j) l inside = elim (cases_eq i (suc j)) [
    | inl same ↦ let e = ap (λ n. get_or components.numbers.items (get_or numbers n 0) 0) same in omega (arith, e)
    | inr differ ↦ omega (arith, is_topological i j (omega (arith, differ, l)) (omega arith), step j (suc j) (next-inside numbers j inside) (omega arith) inside)
  ]

  pub components-equal : (j : ℕ) → j < length numbers → get_or components.numbers.items (get_or numbers 0 0) 0 ≡ get_or components.numbers.items (get_or numbers j 0) 0
  components-equal j inside = go (length numbers) refl
    where
      go : (n : ℕ) → length numbers ≡ n → get_or components.numbers.items (get_or numbers 0 0) 0 ≡ get_or components.numbers.items (get_or numbers j 0) 0
      go zero e = absurd (omega (arith, e, inside))
      go (suc n) e = omega (
        arith,
        is_topological 0 j (omega arith) inside,
        is_topological j n (omega (arith, inside, e)) (omega (arith, e)),
        step n 0 (next-last numbers n (sym e)) (omega (arith, e)) (omega (arith, e)),
      )

-- No cycle continues with a number of another component than that of the first member.
pub other-component : (ds : List Dependency) (bound : ℕ) (path : List ℕ) (m : ℕ) (components : Components) → AreComponents ds components → 0 < length path →
    (get_or components.numbers.items (get_or path 0 0) 0 ≡ get_or components.numbers.items m 0 → ⊥) → AreAll (CycleThrough ds bound path m) []
other-component ds bound path m components are begun differ = all-none (CycleThrough ds bound path m) (λ n h.
    let rest = h.1.0 in
    let c : IsCycle ds bound (path ++ m ∷ rest) = subst (λ x. IsCycle ds bound x) h.1.1 h.0 in
    let head = get_or_from_slice_get (path ++ m ∷ rest) 0 (get_or path 0 0) 0 (get-left path (m ∷ rest) 0 (get_or path 0 0) (slice_get-get_or path 0 0 begun)) in
    let last = get_or_from_slice_get (path ++ m ∷ rest) (length path) m 0 (at-end path m rest) in
    let e = components-equal ds bound (path ++ m ∷ rest) c components are (length path) (omega (arith, length-append path (m ∷ rest))) in
    differ (ap (λ x. get_or components.numbers.items x 0) (sym head) ∙ e ∙ ap (λ x. get_or components.numbers.items x 0) last))

-- Each member of a cycle is cyclic.
module _ (ds : List Dependency) (bound : ℕ) (numbers : List ℕ) (c : IsCycle ds bound numbers) (components : Components) (are : AreComponents ds components) where
  marked : (i j : ℕ) → next numbers i ≡ j → i < length numbers → j < length numbers → slice_get components.cyclic.items (get_or numbers j 0) ≡ Some true
  unfolding member-of
  marked i j e k l =
      let a = member-of ds bound numbers c components are i k in
      let b = member-of ds bound numbers c components are j l in
      let same = components-equal ds bound numbers c components are in
      are.cyclic (get_or numbers i 0) (get_or numbers j 0) a.0 b.0 a.1.2 b.1.2
      (c.linked i a.0 b.0 a.1 (subst (λ n. Member ds numbers n b.0) (sym e) b.1)) (omega (arith, same i k, same j l))

  pub member-cyclic : (j : ℕ) → j < length numbers → slice_get components.cyclic.items (get_or numbers j 0) ≡ Some true
  member-cyclic zero l = go (length numbers) refl
    where
      go : (n : ℕ) → length numbers ≡ n → slice_get components.cyclic.items (get_or numbers 0 0) ≡ Some true
      go zero e = absurd (omega (arith, e, l))
      go (suc n) e = marked n 0 (next-last numbers n (sym e)) (omega (arith, e)) l
  member-cyclic (suc j) l = marked j (suc j) (next-inside numbers j l) (omega arith) l

-- Without a cyclic dependency there is no cycle.
pub no-cycle : (ds : List Dependency) (bound : ℕ) (numbers : List ℕ) (components : Components) → All (λ flag. flag ≡ false) components.cyclic.items → AreComponents ds components → IsCycle ds bound numbers → ⊥
no-cycle ds bound numbers components off are c =
    let m = get_or numbers 0 0 in
    let on = member-cyclic ds bound numbers c components are 0 (omega (arith, c.at_least_two)) in
    false≢true (sym (off m false (slice_get_within components.cyclic.items m true on)) ∙ get_or_from_slice_get components.cyclic.items m true false on)

-- No cycle begins with a dependency that is not cyclic.
pub none-from : (ds : List Dependency) (bound root : ℕ) (components : Components) → AreComponents ds components → slice_get components.cyclic.items root ≡ Some false → AreAll (CycleFrom ds bound root) []
none-from ds bound root components are off = all-none (CycleFrom ds bound root) (λ numbers h.
    let here = get_or_from_slice_get numbers 0 root 0 h.1 in
    let on = member-cyclic ds bound numbers h.0 components are 0 (omega (arith, h.0.at_least_two)) in
    false≢true (same_Some _ _ (sym off ∙ ap (slice_get components.cyclic.items) (sym here) ∙ on)))

pub components-ascend : (ds : List Dependency) (components : Components) → length components.numbers.items ≡ length ds → FallAtMost ds components.numbers.items 0 0 →
    AreSuccessorsMarked ds components.numbers.items components.cyclic.items → components.locks.locks.items ≡ map (λ d. d.lock) ds →
    AreLockNumbers ds components.locks.positions.items → AreAcquirers ds components.acquirers →
    AreComponentThreads ds components.numbers.items components.cyclic.items components.threads → AreComponents ds components
components-ascend ds components each up marks locked numbered acquirers threads = record {
  each = each;
  ascend = λ m n a b x y c. omega (arith, up m n a b (omega arith) x y c);
  marked = marks.each;
  cyclic = marks.marked;
  locked = locked;
  numbered = numbered;
  acquirers = acquirers;
  threads = threads;
}

-- ---- a cycle has at most one member of each thread

abbrev thread_in : Option Dependency → ℕ
thread_in None = 0
thread_in (Some d) = d.thread

abbrev pub threads_of : List Dependency → List ℕ → List ℕ
threads_of ds numbers = map (λ m. thread_in (slice_get ds m)) numbers

pub threads-count : (ds : List Dependency) (numbers : List ℕ) → length (threads_of ds numbers) ≡ length numbers
threads-count ds numbers = length-map numbers (λ m. thread_in (slice_get ds m))

-- A cycle is one up to each bound that is not below its length.
pub another-bound : (ds : List Dependency) (bound other : ℕ) (numbers : List ℕ) → IsCycle ds bound numbers → length numbers ≤ other → IsCycle ds other numbers
another-bound ds bound other numbers c most = record {
  at_least_two = c.at_least_two;
  at_most = most;
  known = c.known;
  least_first = c.least_first;
  threads_distinct = c.threads_distinct;
  locks_distinct = c.locks_distinct;
  held_disjoint = c.held_disjoint;
  linked = c.linked;
}

module _ (ds : List Dependency) (bound : ℕ) (numbers : List ℕ) (c : IsCycle ds bound numbers) (components : Components) (are : AreComponents ds components) where
  thread-at : (i : ℕ) (d : Dependency) → Member ds numbers i d → slice_get (threads_of ds numbers) i ≡ Some d.thread
  thread-at i d (m, at, is) = slice_get-map (λ m. thread_in (slice_get ds m)) numbers i ∙ (ap (option_map (λ m. thread_in (slice_get ds m))) at ∙ ap (λ o. Some (thread_in o)) is)

  pub threads-differ : IsDistinct eqb (threads_of ds numbers)
  threads-differ = IsDistinct-from_apart eqb (threads_of ds numbers) (λ i j d less inside.
      let count = length-map numbers (λ m. thread_in (slice_get ds m)) in
      let a = member-of ds bound numbers c components are i (omega (arith, count)) in
      let b = member-of ds bound numbers c components are j (omega (arith, count)) in
      let differ = c.threads_distinct i j a.0 b.0 less a.1 b.1 in
      apart (get_or (threads_of ds numbers) i d) (get_or (threads_of ds numbers) j d)
      (λ same. differ (sym (get_or_from_slice_get (threads_of ds numbers) i a.0.thread d (thread-at i a.0 a.1)) ∙ (same ∙ get_or_from_slice_get (threads_of ds numbers) j b.0.thread d (thread-at j b.0 b.1)))))
    where
      apart : (x y : ℕ) → (x ≡ y → ⊥) → eqb x y ≡ false
      apart x y differ = grind (arith, nat_tests, differ)

  pub threads-known : (root thread : ℕ) → slice_get numbers 0 ≡ Some root → Contains (threads_of ds numbers) thread → HasComponentThread components.threads (get_or components.numbers.items root 0) thread
  threads-known root thread first h =
      let at = has_contained (threads_of ds numbers) thread h in
      let inside = slice_get_within (threads_of ds numbers) at.0 thread at.1 in
      let within : at.0 < length numbers = omega (arith, length-map numbers (λ m. thread_in (slice_get ds m))) in
      let a = member-of ds bound numbers c components are at.0 within in
      let is : a.0.thread ≡ thread = same_Some a.0.thread thread (sym (thread-at at.0 a.0 a.1) ∙ at.1) in
      let marked = ap (slice_get components.cyclic.items) (sym (get_or_from_slice_get numbers at.0 a.1.0 0 a.1.1)) ∙ member-cyclic ds bound numbers c components are at.0 within in
      let own = are.threads.each a.1.0 a.0 a.1.2 marked in
      let here : get_or numbers 0 0 ≡ root = get_or_from_slice_get numbers 0 root 0 first in
      let there : get_or numbers at.0 0 ≡ a.1.0 = get_or_from_slice_get numbers at.0 a.1.0 0 a.1.1 in
      let same : get_or components.numbers.items a.1.0 0 ≡ get_or components.numbers.items root 0 =
      ap (λ m. get_or components.numbers.items m 0) (sym there) ∙ (sym (components-equal ds bound numbers c components are at.0 within) ∙ ap (λ m. get_or components.numbers.items m 0) here) in
      subst (λ t. HasComponentThread components.threads (get_or components.numbers.items root 0) t) is (subst (λ k. HasComponentThread components.threads k a.0.thread) same own)
