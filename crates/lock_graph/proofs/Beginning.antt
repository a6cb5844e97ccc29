-- The numbers below a total in the lists of a graph.
use Rattle.std.proofs.Common.{◌≡◌, ℕ, zero, suc, ◌-◌, ◌<◌, ◌≤◌, ltb, true, false, cond, List, [], ◌∷◌, length, take, get_or, slice_get, Some, inl, inr, refl, sym, ap, subst, ◌∙◌, arith}
use Rattle.std.proofs.lemmas.Bool.{cases_lt, lt-ltb}
use Rattle.std.proofs.lemmas.List.{length-take-le, take_all}
use Rattle.std.proofs.lemmas.List.Kept.{AllPairs-from_increasing, IsStrictlyIncreasing-filter}
use Rattle.std.proofs.lemmas.List.Sorted.{IsNonDecreasingBy-from_default}
use Rattle.std.proofs.lemmas.Option.{slice_get_within, get_or_from_slice_get, same_Some}
use Rattle.std.specs.List.{filter, Contains}
use Rattle.std.specs.List.Sorted.{IsStrictlyIncreasing, IsNonDecreasingBy, IsPartitionPoint}
use Rattle.trace_model.specs.Theory.Dependencies.{Dependency}
use Rattle.trace_model.proofs.Lists.{get-take, get-take_past}
use Rattle.dependencies.proofs.Parts.{below_exact}
use Rattle.lock_graph.specs.declared.graph.LockGraph.{LockGraph}
use Rattle.lock_graph.specs.Graph.{HoldsLock, IsGraphOf, HasGraphOf, holders, holders_below}

-- a graph contains the graph of each prefix of its dependencies
pub graphs_begin : (all : List Dependency) (g : LockGraph) (total : ℕ) → IsGraphOf all (holders g) → total ≤ length all → HasGraphOf (take total all) g
graphs_begin all g total is within = record {
  below = record {
    exact = λ lock n. (forth lock n, back lock n);
    ascends = λ lock. IsStrictlyIncreasing-filter (λ n. ltb n (length (take total all))) (holders g lock) (is.ascends lock);
  };
  ascends = is.ascends;
}
  where
    forth : (lock n : ℕ) → Contains (holders_below g (length (take total all)) lock) n → HoldsLock (take total all) n lock
    forth lock n c =
        let r = (below_exact (length (take total all)) (holders g lock) n).0 c in
        let len = length-take-le total all within in
        let less = r.0 in
        let (d, at, held) = (is.exact lock n).0 r.1 in
        (d, get-take total all n (omega arith) ∙ at, held)

    back : (lock n : ℕ) → HoldsLock (take total all) n lock → Contains (holders_below g (length (take total all)) lock) n
    back lock n (d, at, held) =
        let less = slice_get_within (take total all) n d at in
        (below_exact (length (take total all)) (holders g lock) n).1
        (less, (is.exact lock n).1 (d, sym (get-take total all n (get-take_past total all n d at)) ∙ at, held))

-- the numbers below a total are a prefix of ascending numbers
first_below : (total : ℕ) (xs : List ℕ) (i : ℕ) → ((k x : ℕ) → k < i → slice_get xs k ≡ Some x → ltb x total ≡ true) → ((k x : ℕ) → i ≤ k → slice_get xs k ≡ Some x → ltb x total ≡ false) →
    take i xs ≡ filter (λ n. ltb n total) xs
first_below total [] zero low high = refl
first_below total [] (suc i) low high = refl
first_below total (x ∷ xs) zero low high =
    first_below total xs zero (λ k y l h. absurd (omega arith)) (λ k y l h. high (suc k) y (omega arith) h)
    ∙ sym (ap (λ b. cond b (x ∷ filter (λ n. ltb n total) xs) (filter (λ n. ltb n total) xs)) (high 0 x (omega arith) refl))
first_below total (x ∷ xs) (suc i) low high =
    ap (λ ys. x ∷ ys) (first_below total xs i (λ k y l h. low (suc k) y (omega arith) h) (λ k y l h. high (suc k) y (omega arith) h))
    ∙ sym (ap (λ b. cond b (x ∷ filter (λ n. ltb n total) xs) (filter (λ n. ltb n total) xs)) (low 0 x (omega arith) refl))

-- the same, by the index that a binary search finds
pub part_below : (total : ℕ) (xs : List ℕ) (i : ℕ) → IsPartitionPoint (λ n. ltb n total ≡ true) (λ n. ltb n total ≡ false) xs i → take i xs ≡ filter (λ n. ltb n total) xs
part_below total xs i at = first_below total xs i
    (λ k x l h. subst (λ n. ltb n total ≡ true) (get_or_from_slice_get xs k x x h) (at.0 k x (omega arith) l))
    (λ k x l h. subst (λ n. ltb n total ≡ false) (get_or_from_slice_get xs k x x h) (at.1 k x l (slice_get_within xs k x h)))

-- ascending numbers are all below a total if the last one is
pub all_below : (total : ℕ) (xs : List ℕ) (last : ℕ) → IsStrictlyIncreasing xs → slice_get xs (length xs - 1) ≡ Some last → last < total → xs ≡ filter (λ n. ltb n total) xs
all_below total xs last up at less =
    sym (take_all (length xs) xs (omega arith))
    ∙ first_below total xs (length xs) (λ k x l h. lt-ltb x total (low k x l h)) (λ k x l h. absurd (omega (arith, l, slice_get_within xs k x h)))
  where
    low : (k x : ℕ) → k < length xs → slice_get xs k ≡ Some x → x < total
    low k x l h = elim (cases_lt k (length xs - 1)) [
      | inl before ↦
          let a = AllPairs-from_increasing xs up k (length xs - 1) 0 before (omega arith) in
          omega (arith, a, less, get_or_from_slice_get xs k x 0 h, get_or_from_slice_get xs (length xs - 1) last 0 at)
      | inr end ↦
          let same : k ≡ length xs - 1 = omega arith in
          let e = same_Some x last (sym h ∙ ap (slice_get xs) same ∙ at) in
          omega (arith, e, less)
    ]

-- ascending numbers do not fall
pub non_decreasing : (xs : List ℕ) → IsStrictlyIncreasing xs → IsNonDecreasingBy (λ y. y) xs
non_decreasing xs up = IsNonDecreasingBy-from_default (λ y. y) xs 0 (λ j k l inside. elim (cases_lt j k) [
  | inl less ↦ let a = AllPairs-from_increasing xs up j k 0 less inside in omega arith
  | inr more ↦ let same : get_or xs j 0 ≡ get_or xs k 0 = ap (λ n. get_or xs n 0) (omega arith) in omega arith
])
