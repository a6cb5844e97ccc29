-- The keys of components and threads.
use Rattle.std.proofs.Common.{◌≡◌, ℕ, zero, suc, ◌+◌, ◌-◌, ◌<◌, ◌≤◌, inl, inr, eqb, leb, ltb, Bool, true, false, List, [], ◌∷◌, length, map, take, drop, slice_get, get_or, option_map, Some, refl, sym, ap, ◌∙◌, subst, arith}
use Rattle.std.proofs.lemmas.Option.{same_Some, slice_get_within, slice_get-get_or, slice_get-map, get_or_from_slice_get}
use Rattle.std.proofs.lemmas.List.{length-map, length-take}
use Rattle.std.proofs.lemmas.Bool.{cases_lt, false≢true, leb-false, ltb-true}
use Rattle.std.proofs.lemmas.Bool.Decides.{nat_tests}
use Rattle.std.proofs.lemmas.Map.Made.{is_member-Decides, length-le_from_is_member}
use Rattle.std.specs.Cmp.{nat_eq_equiv, unsigned_Decides}
use Rattle.std.proofs.lemmas.List.Kept.{Contains-dedup_nat}
use Rattle.std.proofs.lemmas.List.Sorted.{Contains-permutation}
use Rattle.std.proofs.lemmas.Map.Keys.{IsStrictlyIncreasing-dedup, non_decreasing_from_sorted, sorted_from_strictly_increasing}
use Rattle.std.specs.List.{AllByRecursion, Contains, IsDistinct, dedup}
use Rattle.std.specs.List.Sorted.{IsNonDecreasing, IsPartitionPoint, IsPermutation, IsSorted}
use Rattle.std.specs.Ordering.{nat_cmp}
use Rattle.trace_model.specs.Theory.Dependencies.{Dependency}
use Rattle.trace_model.proofs.Lists.{get-take}
use Rattle.trace_model.proofs.Theory.Unique.{has_contained, contains_had}
use Rattle.cycle_search.specs.Acquirers.{key_of}
use Rattle.cycle_search.specs.declared.component_threads.ComponentThreads.{ComponentThreads}
use Rattle.cycle_search.specs.ComponentThreads.{AreComponentThreads}

-- The keys have those of the cyclic ones of the first `i` dependencies.
abbrev pub HasThreadKeys : List Dependency → List ℕ → List Bool → ℕ → List ℕ → Type 0
HasThreadKeys ds components cyclic i keys =
    (n : ℕ) (d : Dependency) → n < i → slice_get ds n ≡ Some d → slice_get cyclic n ≡ Some true →
    (d.thread < 4294967296) × Contains keys (key_of (get_or components n 0) d.thread)

pub thread_keys-more : (ds : List Dependency) (components : List ℕ) (cyclic : List Bool) (i : ℕ) (d : Dependency) (keys more : List ℕ) → d.thread < 4294967296 → slice_get ds i ≡ Some d →
    ((key : ℕ) → Contains keys key → Contains more key) → Contains more (key_of (get_or components i 0) d.thread) → HasThreadKeys ds components cyclic i keys → HasThreadKeys ds components cyclic (i + 1) more
thread_keys-more ds components cyclic i d keys more small at kept added has = λ n e below here marked. elim (cases_lt n i) [
  | inl less ↦ let own = has n e less here marked in (own.0, kept (key_of (get_or components n 0) e.thread) own.1)
  | inr over ↦
      let same : i ≡ n = omega arith in
      let is : d ≡ e = same_Some d e (sym at ∙ ap (slice_get ds) same ∙ here) in
      (subst (λ (x : Dependency). x.thread < 4294967296) is small, subst (Contains more) (λ j. key_of (get_or components (same j) 0) (is j).thread) added)
]

pub thread_keys-skip : (ds : List Dependency) (components : List ℕ) (cyclic : List Bool) (i : ℕ) (keys : List ℕ) → slice_get cyclic i ≡ Some false →
    HasThreadKeys ds components cyclic i keys → HasThreadKeys ds components cyclic (i + 1) keys
thread_keys-skip ds components cyclic i keys off has = λ n e below here marked. elim (cases_lt n i) [
  | inl less ↦ has n e less here marked
  | inr over ↦
      let same : i ≡ n = omega arith in
      absurd (false≢true (same_Some false true (sym off ∙ ap (slice_get cyclic) same ∙ marked)))
]

pub threads-known : (ds : List Dependency) (components : List ℕ) (cyclic : List Bool) (n : ℕ) (keys sorted : List ℕ) (threads : ComponentThreads) → length ds ≤ n → HasThreadKeys ds components cyclic n keys → IsPermutation keys sorted →
    IsSorted nat_cmp sorted → threads.keys.items ≡ dedup eqb sorted → AreComponentThreads ds components cyclic threads
threads-known ds components cyclic n keys sorted threads whole has moved up kept = record {
  each = λ m d at marked.
      let own = has m d (omega (arith, slice_get_within ds m d at)) at marked in
      (own.0, subst (λ ks. Contains ks (key_of (get_or components m 0) d.thread)) (sym kept) (Contains-dedup_nat sorted _ (Contains-permutation keys sorted _ moved own.1)));
  ascends = subst IsNonDecreasing (sym kept) (non_decreasing_from_sorted (dedup eqb sorted) (sorted_from_strictly_increasing (dedup eqb sorted) (IsStrictlyIncreasing-dedup sorted up)));
}

-- ---- the number of threads of a component

get-drop : (n : ℕ) (xs : List ℕ) (k : ℕ) → slice_get (drop n xs) k ≡ slice_get xs (n + k)
get-drop zero xs k = let e : k ≡ 0 + k = omega arith in ap (slice_get xs) e
get-drop (suc n) [] k = refl
get-drop (suc n) (x ∷ xs) k = let e : suc (n + k) ≡ suc n + k = omega arith in get-drop n xs k ∙ ap (slice_get (x ∷ xs)) e

-- A key from the first to the last one is between the two places.
pub in_range : (keys : List ℕ) (first last start end x : ℕ) → IsPartitionPoint (λ y. ltb y first ≡ true) (λ y. ltb y first ≡ false) keys start →
    IsPartitionPoint (λ y. leb y last ≡ true) (λ y. leb y last ≡ false) keys end → first ≤ x → x ≤ last → Contains keys x → Contains (take (end - start) (drop start keys)) x
in_range keys first last start end x low high above below c =
    let h = has_contained keys x c in
    let k = h.0 in
    let inside = slice_get_within keys k x h.1 in
    let is : get_or keys k x ≡ x = get_or_from_slice_get keys k x x h.1 in
    let after : start ≤ k = elim (cases_lt k start) [
      | inl less ↦ absurd (omega (arith, above, is, ltb-true (get_or keys k x) first (low.0 k x (omega arith) less)))
      | inr more ↦ more
    ] in
    let before : k < end = elim (cases_lt k end) [
      | inl less ↦ less
      | inr more ↦ absurd (omega (arith, below, is, leb-false (get_or keys k x) last (high.1 k x more inside)))
    ] in
    let there : start + (k - start) ≡ k = omega (arith, after) in
    contains_had (take (end - start) (drop start keys)) x
    (k - start, get-take (end - start) (drop start keys) (k - start) (omega (arith, after, before)) ∙ (get-drop start keys (k - start) ∙ (ap (slice_get keys) there ∙ h.1)))

others-differ : (component t : ℕ) (ts : List ℕ) → AllByRecursion (λ u. eqb t u ≡ false) ts → AllByRecursion (λ key. eqb (key_of component t) key ≡ false) (map (key_of component) ts)
others-differ component t [] h = tt
others-differ component t (u ∷ us) h = (grind (arith, nat_tests), others-differ component t us h.1)

keys-differ : (component : ℕ) (threads : List ℕ) → IsDistinct eqb threads → IsDistinct eqb (map (key_of component) threads)
unfolding IsDistinct
keys-differ component [] h = tt
keys-differ component (t ∷ ts) h = (others-differ component t ts h.0, keys-differ component ts h.1)

from-map : (component : ℕ) (threads : List ℕ) (q : ℕ) → Contains (map (key_of component) threads) q → (t : ℕ) × Contains threads t × (key_of component t ≡ q)
from-map component threads q c =
    let h = has_contained (map (key_of component) threads) q c in
    let inside = slice_get_within (map (key_of component) threads) h.0 q h.1 in
    let here = slice_get-get_or threads h.0 0 (omega (arith, inside, length-map threads (key_of component))) in
    let t = get_or threads h.0 0 in
    (t, contains_had threads t (h.0, here), same_Some (key_of component t) q (sym (ap (option_map (key_of component)) here) ∙ (sym (slice_get-map (key_of component) threads h.0) ∙ h.1)))

-- Distinct threads whose keys a list has are no more than the list.
pub few-threads : (component : ℕ) (threads range : List ℕ) → IsDistinct eqb threads → ((t : ℕ) → Contains threads t → Contains range (key_of component t)) → length threads ≤ length range
few-threads component threads range apart within =
    let keys = map (key_of component) threads in
    let le = length-le_from_is_member nat_eq_equiv keys range (keys-differ component threads apart) (λ q h.
    let t = from-map component threads q ((is_member-Decides unsigned_Decides keys q).0 h) in
    (is_member-Decides unsigned_Decides range q).1 (subst (Contains range) t.2 (within t.0 t.1))) in
    omega (arith, le, length-map threads (key_of component))

pub few-keys : (keys : List ℕ) (component first last start end : ℕ) (threads : List ℕ) → first ≡ key_of component 0 → last ≡ key_of component 4294967295 →
    IsPartitionPoint (λ y. ltb y first ≡ true) (λ y. ltb y first ≡ false) keys start → IsPartitionPoint (λ y. leb y last ≡ true) (λ y. leb y last ≡ false) keys end → IsDistinct eqb threads →
    ((t : ℕ) → Contains threads t → (t < 4294967296) × Contains keys (key_of component t)) → length threads ≤ end - start
few-keys keys component first last start end threads from to low high apart has =
    let le = few-threads component threads (take (end - start) (drop start keys)) apart (λ t c.
    let own = has t c in
    in_range keys first last start end (key_of component t) low high (omega (arith, from, own.0)) (omega (arith, to, own.0)) own.1) in
    omega (arith, le, length-take (end - start) (drop start keys))
