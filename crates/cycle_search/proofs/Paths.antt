-- When a path can be extended, and when it is a cycle.
use Rattle.std.proofs.Common.{◌≡◌, ◌≢◌, ℕ, zero, suc, ◌+◌, ◌-◌, ◌<◌, ◌≤◌, ◌⊎◌, ◌↔◌, Bool, IsTrue, inl, inr, List, [], ◌∷◌, ◌++◌, length, slice_get, get_or, drop, leb, true, false, Some, refl, sym, ap, ◌∙◌, subst, arith}
use Rattle.std.proofs.lemmas.Option.{none-some, same_Some, slice_get_within, slice_get-get_or, get_or_from_slice_get}
use Rattle.std.proofs.lemmas.List.{length-append, length-drop, get_or-drop}
use Rattle.std.proofs.lemmas.Bool.{cases_lt, cases_eq, leb-true, leb-false}
use Rattle.std.proofs.lemmas.List.Kept.{AllPairs-from_increasing}
use Rattle.std.proofs.lemmas.List.Sorted.{IsNonDecreasingBy-from_default}
use Rattle.std.proofs.lemmas.Bool.Decides.{nat_tests}
use Rattle.std.specs.List.{Contains, All}
use Rattle.std.specs.List.Sorted.{IsStrictlyIncreasing, IsPartitionPoint, IsNonDecreasingBy}
use Rattle.trace_model.specs.Theory.Dependencies.{Dependency}
use Rattle.trace_model.specs.Theory.Cycles.{Member, next, IsCycle}
use Rattle.trace_model.proofs.Theory.Unique.{has_contained, contains_had}
use Rattle.trace_model.proofs.Lists.{length-push, get-push, get-push_kept}
use Rattle.trace_model.specs.Theory.Held.{has}
use Rattle.held_sets.proofs.Locks.{has_contains, contains_has}
use Rattle.guards.specs.Compatible.{NumbersApart, IsCompatible}
use Rattle.lock_graph.specs.Graph.{HoldsLock, IsGraphOf}
use Rattle.cycle_search.specs.Edges.{AreHolders}
use Rattle.cycle_search.specs.CycleSearch.{IsPath, ContinuesPath, CompletesCycle, LinksTo, CompletesAsLast, AboveFirst, AreNexts}
use Rattle.cycle_search.proofs.Listing.{get-left}

-- The dependency of the number.
pub found : (ds : List Dependency) (m : ℕ) → m < length ds → (d : Dependency) × (slice_get ds m ≡ Some d)
found [] m l = absurd (omega arith)
found (d ∷ ds) zero l = (d, refl)
found (d ∷ ds) (suc m) l = found ds m (omega arith)

pub all-had : (P : ℕ → Type 0) (xs : List ℕ) → All P xs → (k m : ℕ) → slice_get xs k ≡ Some m → P m
all-had P xs h k m e = subst P (get_or_from_slice_get xs k m 0 e) (h k 0 (slice_get_within xs k m e))

pub all-from : (P : ℕ → Type 0) (xs : List ℕ) → ((k m : ℕ) → slice_get xs k ≡ Some m → P m) → All P xs
all-from P xs h k d l = h k (get_or xs k d) (slice_get-get_or xs k d l)

module _ (ds : List Dependency) (path : List ℕ) (m : ℕ) where
  -- A member of the extended path is one of the path, or the new one.
  member-push : (i : ℕ) (a : Dependency) → Member ds (path ++ m ∷ []) i a →
      (Member ds path i a × (i < length path)) ⊎ ((i ≡ length path) × (slice_get ds m ≡ Some a))
  member-push i a (n, x, y) = elim (get-push path m i n x) [
    | inl u ↦ inl ((n, u, y), slice_get_within path i n u)
    | inr u ↦ inr (u.0, subst (λ k. slice_get ds k ≡ Some a) (sym u.1) y)
  ]

  pub path-push : IsPath ds path → ContinuesPath ds path m → IsPath ds (path ++ m ∷ [])
  path-push p f = record {
    begun = omega (arith, length-push path m);
    known = all-from (λ n. n < length ds) (path ++ m ∷ []) (λ k n h. elim (get-push path m k n h) [
      | inl u ↦ all-had (λ n. n < length ds) path p.known k n u
      | inr u ↦ subst (λ x. x < length ds) u.1 f.known
    ]);
    least_first = λ first n h c.
        let head = slice_get-get_or path 0 0 p.begun in
        let same : get_or path 0 0 ≡ first = same_Some _ first (sym (get-push_kept path m 0 _ head) ∙ h) in
        let at : slice_get path 0 ≡ Some first = head ∙ ap Some same in
        let k = has_contained (path ++ m ∷ []) n c in
        elim (get-push path m k.0 n k.1) [
          | inl u ↦ p.least_first first n at (contains_had path n (k.0, u))
          | inr u ↦ omega (arith, f.above first at, u.1)
        ];
    threads_distinct = λ i j a b l x y. elim (member-push j b y) [
      | inl v ↦ elim (member-push i a x) [
        | inl u ↦ p.threads_distinct i j a b l u.0 v.0
        | inr u ↦ absurd (omega (arith, l, u.0, v.1))
      ]
      | inr v ↦ elim (member-push i a x) [
        | inl u ↦ (all-had (λ n. NumbersApart ds n m) path f.compatible i u.0.0 u.0.1 a b u.0.2 v.1).0
        | inr u ↦ absurd (omega (arith, l, u.0, v.0))
      ]
    ];
    held_disjoint = λ i j a b l x y. elim (member-push j b y) [
      | inl v ↦ elim (member-push i a x) [
        | inl u ↦ p.held_disjoint i j a b l u.0 v.0
        | inr u ↦ absurd (omega (arith, l, u.0, v.1))
      ]
      | inr v ↦ elim (member-push i a x) [
        | inl u ↦ (all-had (λ n. NumbersApart ds n m) path f.compatible i u.0.0 u.0.1 a b u.0.2 v.1).1
        | inr u ↦ absurd (omega (arith, l, u.0, v.0))
      ]
    ];
    linked = λ i a b x y. elim (member-push (suc i) b y) [
      | inl v ↦ elim (member-push i a x) [
        | inl u ↦ p.linked i a b u.0 v.0
        | inr u ↦ absurd (omega (arith, u.0, v.1))
      ]
      | inr v ↦ elim (member-push i a x) [
        | inl u ↦ f.linked i a b v.0 u.0 v.1
        | inr u ↦ absurd (omega (arith, u.0, v.0))
      ]
    ];
  }

-- A path without its last number.
pub path-shorter : (ds : List Dependency) (path : List ℕ) (m : ℕ) → 0 < length path → IsPath ds (path ++ m ∷ []) → IsPath ds path
path-shorter ds path m begun p = record {
  begun = begun;
  known = all-from (λ n. n < length ds) path (λ k n h. all-had (λ n. n < length ds) (path ++ m ∷ []) p.known k n (get-push_kept path m k n h));
  least_first = λ first n h c.
      let k = has_contained path n c in
      p.least_first first n (get-push_kept path m 0 first h) (contains_had (path ++ m ∷ []) n (k.0, get-push_kept path m k.0 n k.1));
  threads_distinct = λ i j a b l x y. p.threads_distinct i j a b l (still i a x) (still j b y);
  held_disjoint = λ i j a b l x y. p.held_disjoint i j a b l (still i a x) (still j b y);
  linked = λ i a b x y. p.linked i a b (still i a x) (still (suc i) b y);
}
  where
    still : (i : ℕ) (a : Dependency) → Member ds path i a → Member ds (path ++ m ∷ []) i a
    still i a (n, x, y) = (n, get-push_kept path m i n x, y)

-- A single number is a path.
only : (root k m : ℕ) → slice_get (root ∷ []) k ≡ Some m → root ≡ m
only root zero m h = same_Some root m h
only root (suc k) m h = absurd (none-some m h)

-- A new path with one number is that number alone.
pub root-alone : (root : ℕ) (new pushed : List ℕ) → new ≡ [] → pushed ≡ new ++ root ∷ [] → pushed ≡ root ∷ []
root-alone root new pushed none more = more ∙ ap (λ xs. xs ++ root ∷ []) none

pub path-one : (ds : List Dependency) (root : ℕ) → root < length ds → IsPath ds (root ∷ [])
path-one ds root inside = record {
  begun = omega arith;
  known = all-from (λ m. m < length ds) (root ∷ []) (λ k m h. subst (λ n. n < length ds) (only root k m h) inside);
  least_first = λ first m x h. let k = has_contained (root ∷ []) m h in omega (arith, only root 0 first x, only root k.0 m k.1);
  threads_distinct = λ i j a b l x y. absurd (omega (arith, l, slice_get_within (root ∷ []) j y.0 y.1));
  held_disjoint = λ i j a b l x y. absurd (omega (arith, l, slice_get_within (root ∷ []) j y.0 y.1));
  linked = λ i a b x y. absurd (omega (arith, slice_get_within (root ∷ []) (suc i) y.0 y.1));
}

pub at-end : (path : List ℕ) (m : ℕ) (rest : List ℕ) → slice_get (path ++ m ∷ rest) (length path) ≡ Some m
at-end [] m rest = refl
at-end (x ∷ path) m rest = at-end path m rest

-- The next position in a cycle.
pub next-inside : (numbers : List ℕ) (i : ℕ) → suc i < length numbers → next numbers i ≡ suc i
next-inside numbers i l = grind (arith, nat_tests)

pub next-last : (numbers : List ℕ) (i : ℕ) → suc i ≡ length numbers → next numbers i ≡ 0
next-last numbers i l = grind (arith, nat_tests)

-- Every position below the length has a member.
pub member-at : (ds : List Dependency) (path : List ℕ) → All (λ m. m < length ds) path → (i : ℕ) → i < length path → (d : Dependency) × Member ds path i d
member-at ds path known i l =
    let d = found ds (get_or path i 0) (known i 0 l) in
    (d.0, (get_or path i 0, slice_get-get_or path i 0 l, d.1))

module _ (ds : List Dependency) (path : List ℕ) (p : IsPath ds path) (closes : CompletesCycle ds path) where
  -- The lock of each member is in the held set of the next one.
  pub link : (i : ℕ) (a b : Dependency) → Member ds path i a → Member ds path (next path i) b → Contains b.held a.lock
  link i a b x y = elim (cases_lt (suc i) (length path)) [
    | inl l ↦ p.linked i a b x (subst (λ k. Member ds path k b) (next-inside path i l) y)
    | inr l ↦
        let e : suc i ≡ length path = omega (arith, l, slice_get_within path i x.0 x.1) in
        closes i b a e (subst (λ k. Member ds path k b) (next-last path i e) y) x
  ]

  -- Two members that acquire one lock would have it in the held sets of both their successors.
  pub locks-distinct : (i j : ℕ) (a b : Dependency) → i < j → Member ds path i a → Member ds path j b → a.lock ≢ b.lock
  locks-distinct i j a b l x y same =
      let inside : j < length path = slice_get_within path j y.0 y.1 in
      let c = member-at ds path p.known (suc i) (omega arith) in
      let first : Contains c.0.held a.lock = p.linked i a c.0 x c.1 in
      elim (cases_lt (suc j) (length path)) [
        | inl k ↦
            let d = member-at ds path p.known (suc j) k in
            p.held_disjoint (suc i) (suc j) c.0 d.0 (omega arith) c.1 d.1 a.lock first (subst (λ z. Contains d.0.held z) (sym same) (p.linked j b d.0 y d.1))
        | inr k ↦
            let d = member-at ds path p.known 0 (omega arith) in
            let e : suc j ≡ length path = omega arith in
            p.held_disjoint 0 (suc i) d.0 c.0 (omega arith) d.1 c.1 a.lock (subst (λ z. Contains d.0.held z) (sym same) (closes j d.0 b e d.1 y)) first
      ]

  pub cycle-from_path : (bound : ℕ) → 2 ≤ length path → length path ≤ bound → IsCycle ds bound path
  cycle-from_path bound two most = record {
    at_least_two = two;
    at_most = most;
    known = λ m h. let k = has_contained path m h in all-had (λ n. n < length ds) path p.known k.0 m k.1;
    least_first = p.least_first;
    threads_distinct = p.threads_distinct;
    locks_distinct = locks-distinct;
    held_disjoint = λ i j lock a b l x y. p.held_disjoint i j a b l x y lock;
    linked = link;
  }

module _ (ds : List Dependency) (bound : ℕ) (path : List ℕ) (m : ℕ) (rest : List ℕ) (begun : 0 < length path) (c : IsCycle ds bound (path ++ m ∷ rest)) where
  long : length path < length (path ++ m ∷ rest)
  long = omega (arith, length-append path (m ∷ rest))

  here : slice_get (path ++ m ∷ rest) (length path) ≡ Some m
  here = at-end path m rest

  within : (k : ℕ) (d : Dependency) → Member ds path k d → Member ds (path ++ m ∷ rest) k d
  within k d (n, x, y) = (n, get-left path (m ∷ rest) k n x, y)

  -- The next member of a cycle follows the path.
  pub follows-from_cycle : ContinuesPath ds path m
  follows-from_cycle = record {
    known = c.known m (contains_had (path ++ m ∷ rest) m (length path, here));
    above = λ first h.
        let a = found ds first (c.known first (contains_had (path ++ m ∷ rest) first (0, get-left path (m ∷ rest) 0 first h))) in
        let no : first ≡ m → ⊥ = λ e. c.threads_distinct 0 (length path) a.0 a.0 begun (first, get-left path (m ∷ rest) 0 first h, a.1)
        (m, here, subst (λ n. slice_get ds n ≡ Some a.0) e a.1) refl in
        elim (cases_eq first m) [
          | inl e ↦ absurd (no e)
          | inr e ↦ omega (arith, e, c.least_first first m (get-left path (m ∷ rest) 0 first h) (contains_had (path ++ m ∷ rest) m (length path, here)))
        ];
    compatible = all-from (λ n. NumbersApart ds n m) path (λ k n h a b x y.
        let u = within k a (n, h, x) in let v : Member ds (path ++ m ∷ rest) (length path) b = (m, here, y) in
        let l : k < length path = slice_get_within path k n h in
        (c.threads_distinct k (length path) a b l u v, λ lock. c.held_disjoint k (length path) lock a b l u v));
    linked = λ k a b e x y.
        let inside : suc k < length (path ++ m ∷ rest) = omega (arith, e, long) in
        let at : next (path ++ m ∷ rest) k ≡ length path = next-inside (path ++ m ∷ rest) k inside ∙ e in
        c.linked k a b (within k a x) (subst (λ i. Member ds (path ++ m ∷ rest) i b) (sym at) (m, here, y));
  }

  -- A path that closes begins no longer cycle.
  pub closed-no_more : (known : All (λ n. n < length ds) path) → CompletesCycle ds path → ⊥
  closed-no_more known closes = go (length path) refl
    where
      go : (k : ℕ) → length path ≡ k → ⊥
      go zero e = omega (arith, begun, e)
      go (suc k) e =
          let last = member-at ds path known k (omega (arith, e)) in
          let first = member-at ds path known 0 begun in
          let f = follows-from_cycle in
          let b = found ds m f.known in
          c.held_disjoint 0 (length path) last.0.lock first.0 b.0 begun (within 0 first.0 first.1) (m, here, b.1)
          (closes k first.0 last.0 (sym e) first.1 last.1)
          (f.linked k last.0 b.0 (sym e) last.1 b.1)

pub closes-from_cycle : (ds : List Dependency) (bound : ℕ) (path : List ℕ) → IsCycle ds bound path → CompletesCycle ds path
closes-from_cycle ds bound path c k first last e x y = c.linked k last first y (subst (λ i. Member ds path i first) (sym (next-last path k e)) x)

-- The holders that the graph lists for the lock of a dependency.
pub holders-known : (ds : List Dependency) (graph : ℕ → List ℕ) → IsGraphOf ds graph → (number : ℕ) (d : Dependency) → slice_get ds number ≡ Some d →
    (holders : List ℕ) → holders ≡ graph d.lock → AreHolders ds number holders
holders-known ds graph g number d at holders e = record {
  exact = λ other here m.
      let same : d ≡ other = same_Some d other (sym at ∙ here) in
      subst (λ (xs : List ℕ). Contains xs m ↔ HoldsLock ds m other.lock) (sym (e ∙ ap (λ (x : Dependency). graph x.lock) same)) (g.exact other.lock m);
  ascends = subst IsStrictlyIncreasing (sym e) (g.ascends d.lock);
}

-- No dependency holds the lock.
pub holders-none : (ds : List Dependency) (number : ℕ) →
    ((n : ℕ) (a b : Dependency) → slice_get ds number ≡ Some a → slice_get ds n ≡ Some b → Contains b.held a.lock → ⊥) → AreHolders ds number []
holders-none ds number none = record {
  exact = λ a at m. (
    (λ (k, l, e). absurd (omega arith)),
    (λ (b, here, holds). absurd (none m a b at here holds)),
  );
  ascends = λ k l. absurd (omega arith);
}

-- The members that the code reads.
module _ (ds : List Dependency) (path : List ℕ) (p : IsPath ds path) (last : Dependency) (at : slice_get ds (get_or path (length path - 1) 0) ≡ Some last) where
  last-member : Member ds path (length path - 1) last
  last-member = (get_or path (length path - 1) 0, slice_get-get_or path (length path - 1) 0 (omega (arith, p.begun)), at)

  is-last : (k : ℕ) (a : Dependency) → suc k ≡ length path → Member ds path k a → last ≡ a
  is-last k a e (n, x, y) =
      let same : k ≡ length path - 1 = omega arith in
      let one : get_or path (length path - 1) 0 ≡ n = ap (λ i. get_or path i 0) (sym same) ∙ get_or_from_slice_get path k n 0 x in
      same_Some last a (sym at ∙ ap (slice_get ds) one ∙ y)

  pub links-decided : (m : ℕ) (next : Dependency) → slice_get ds m ≡ Some next → (b : Bool) →
      IsTrue b ↔ Contains next.held last.lock → IsTrue b ↔ LinksTo ds path m
  links-decided m next here b decides = (
    (λ t k a n e x y.
        subst (λ z. Contains z.held a.lock) (same_Some next n (sym here ∙ y)) (subst (λ z. Contains next.held z.lock) (is-last k a e x) (decides.0 t))),
    (λ links. decides.1 (links (length path - 1) last next (omega (arith, p.begun)) last-member here)),
  )

  pub nexts-known : (all : List ℕ) → ((m : ℕ) → Contains all m ↔ HoldsLock ds m last.lock) → (after : ℕ) → (nexts : List ℕ) →
      ((m : ℕ) → Contains nexts m ↔ ((after < m) × Contains all m)) → IsStrictlyIncreasing nexts → AreNexts ds path after nexts
  nexts-known all holds after nexts exact ascends = record {
    known = λ m h. slice_get_within ds m (holder m h).0 (holder m h).1;
    above = λ m h. ((exact m).0 h).0;
    linked = λ m h k a b s x y.
        let d = holder m h in
        subst (λ z. Contains z.held a.lock) (same_Some d.0 b (sym d.1 ∙ y)) (subst (λ z. Contains d.0.held z.lock) (is-last k a s x) d.2);
    complete = λ m l above links.
        let d = found ds m l in
        (exact m).1 (above, (holds m).1 (d.0, d.1, links (length path - 1) last d.0 (omega (arith, p.begun)) last-member d.1));
    ascends = ascends;
  }
    where
      holder : (m : ℕ) → Contains nexts m → (d : Dependency) × (slice_get ds m ≡ Some d) × Contains d.held last.lock
      holder m h = (holds m).0 ((exact m).0 h).1

-- A number that closes the path acquires a lock that its first member holds.
pub closed-back : (ds : List Dependency) (path : List ℕ) (m : ℕ) (first last : Dependency) → 0 < length path →
    slice_get ds (get_or path 0 0) ≡ Some first → slice_get ds m ≡ Some last → CompletesCycle ds (path ++ m ∷ []) → Contains first.held last.lock
closed-back ds path m first last begun head at closes =
    closes (length path) first last (sym (length-push path m))
    (get_or path 0 0, get-push_kept path m 0 (get_or path 0 0) (slice_get-get_or path 0 0 begun), head)
    (m, at-end path m [], at)

-- An index within a list has an element.
pub listed : {X : Type 0} (xs : List X) (k : ℕ) → k < length xs → (x : X) × (slice_get xs k ≡ Some x)
listed [] k l = absurd (omega (arith, l))
listed (x ∷ xs) zero l = (x, refl)
listed (x ∷ xs) (suc k) l = listed xs k (omega (arith, l))

-- A number whose dependency acquires such a lock closes the path.
pub closes-decided : (ds : List Dependency) (path : List ℕ) (m : ℕ) (first last : Dependency) → 0 < length path →
    slice_get ds (get_or path 0 0) ≡ Some first → slice_get ds m ≡ Some last → (b : Bool) →
    IsTrue b ↔ Contains first.held last.lock → IsTrue b ↔ CompletesCycle ds (path ++ m ∷ [])
closes-decided ds path m first last begun head at b decides = (
  (λ t k f l e x y.
      let start = get-push_kept path m 0 (get_or path 0 0) (slice_get-get_or path 0 0 begun) in
      let one : first ≡ f = same_Some first f (sym head ∙ ap (slice_get ds) (same_Some _ x.0 (sym start ∙ x.1)) ∙ x.2) in
      let end : k ≡ length path = omega (arith, e, length-push path m) in
      let other : last ≡ l = same_Some last l (sym at ∙ ap (slice_get ds) (same_Some m y.0 (sym (at-end path m []) ∙ ap (slice_get (path ++ m ∷ [])) (sym end) ∙ y.1)) ∙ y.2) in
      subst (λ z. Contains z.held l.lock) one (subst (λ z. Contains first.held z.lock) other (decides.0 t))),
  (λ closes. decides.1 (closed-back ds path m first last begun head at closes)),
)

-- The last member of a cycle acquires such a lock.
pub last-takes_back : (ds : List Dependency) (bound : ℕ) (path : List ℕ) (m : ℕ) (rest : List ℕ) → IsPath ds path → bound ≤ length path + 1 →
    IsCycle ds bound (path ++ m ∷ rest) → CompletesAsLast ds path m
last-takes_back ds bound path m (x ∷ rest) p full c = absurd (omega (arith, full, c.at_most, length-append path (m ∷ x ∷ rest)))
last-takes_back ds bound path m [] p full c =
    let f = follows-from_cycle ds bound path m [] p.begun c in
    let first = found ds (get_or path 0 0) (p.known 0 0 p.begun) in
    let last = found ds m f.known in (
      first.0,
      last.0,
      (get_or path 0 0, slice_get-get_or path 0 0 p.begun, first.1),
      last.1,
      closed-back ds path m first.0 last.0 p.begun first.1 last.1 (closes-from_cycle ds bound (path ++ m ∷ []) c),
    )

-- A number that passed the tests of the code.
pub path-tested : (ds : List Dependency) (path : List ℕ) (m : ℕ) → IsPath ds path → m < length ds → AboveFirst path m → LinksTo ds path m →
    IsCompatible ds path m → IsPath ds (path ++ m ∷ [])
path-tested ds path m p known above links apart = path-push ds path m p (record {
  known = known;
  above = above;
  compatible = apart;
  linked = links;
})

-- The ascending numbers above one of them.
module _ (xs : List ℕ) (up : IsStrictlyIncreasing xs) (first i : ℕ) (at : IsPartitionPoint (λ y. leb y first ≡ true) (λ y. leb y first ≡ false) xs i) where
  pub above-exact : (m : ℕ) → Contains (drop i xs) m ↔ ((first < m) × Contains xs m)
  above-exact m = (
    (λ (k, l, e).
        let inside : i + k < length xs = omega (arith, l, length-drop i xs) in
        let same : get_or xs (i + k) m ≡ m = sym (get_or-drop i xs k m) ∙ e in
        (high (i + k) (omega arith) inside m same, (i + k, inside, same))),
    (λ (l, (k, inside, e)). elim (cases_lt k i) [
      | inl below ↦ absurd (low k below m e l)
      | inr over ↦
          let split : i + (k - i) ≡ k = omega arith in
          (k - i, omega (arith, inside, over, length-drop i xs), get_or-drop i xs (k - i) m ∙ ap (λ n. get_or xs n m) split ∙ e)
    ]),
  )
    where
      high : (k : ℕ) → i ≤ k → k < length xs → (m : ℕ) → get_or xs k m ≡ m → first < m
      high k over inside m e = leb-false m first (subst (λ y. leb y first ≡ false) e (at.1 k m over inside))

      low : (k : ℕ) → k < i → (m : ℕ) → get_or xs k m ≡ m → first < m → ⊥
      low k below m e l = let h = leb-true m first (subst (λ y. leb y first ≡ true) e (at.0 k m (omega arith) below)) in omega arith

  pub above-ascends : IsStrictlyIncreasing (drop i xs)
  above-ascends k l =
      let u = up (i + k) (omega (arith, l, length-drop i xs)) in
      let a = get_or-drop i xs k 0 in
      let b = get_or-drop i xs (k + 1) 0 in
      let same : get_or xs (i + (k + 1)) 0 ≡ get_or xs (i + k + 1) 0 = ap (λ n. get_or xs n 0) (omega arith) in
      omega arith

-- Ascending numbers do not decrease.
pub non-decreasing : (xs : List ℕ) → IsStrictlyIncreasing xs → IsNonDecreasingBy (λ y. y) xs
non-decreasing xs up = IsNonDecreasingBy-from_default (λ y. y) xs 0 (λ j k l inside. elim (cases_lt j k) [
  | inl less ↦ let a = AllPairs-from_increasing xs up j k 0 less inside in omega arith
  | inr more ↦ let same : get_or xs j 0 ≡ get_or xs k 0 = ap (λ n. get_or xs n 0) (omega arith) in omega arith
])

-- The test of the held set decides membership.
pub has-decided : (b : Bool) (l : ℕ) (xs : List ℕ) → b ≡ has l xs → IsTrue b ↔ Contains xs l
has-decided b l xs e = ((λ t. has_contains l xs (sym e ∙ t)), (λ c. e ∙ contains_has l xs c))
