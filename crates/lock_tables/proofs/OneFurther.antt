-- One more event, and a graph of a prefix of the dependencies.
use Rattle.std.proofs.Common.{Result, Ok, Err, OnOk, ◌≡◌, ℕ, zero, suc, ◌+◌, ◌<◌, ◌≤◌, ◌↔◌, inl, inr, true, false, cond, List, [], ◌∷◌, ◌++◌, length, take, slice_get, Option, Some, None, refl, sym, ap, subst, ◌∙◌, arith}
use Rattle.std.proofs.lemmas.Bool.{cases_lt}
use Rattle.std.proofs.lemmas.List.{length-take-le}
use Rattle.std.specs.List.{Contains, list_any}
use Rattle.std.specs.List.Sorted.{IsStrictlyIncreasing}
use Rattle.trace_model.specs.declared.traces.event.Op.{Op}
use Rattle.trace_model.specs.declared.traces.event.Op.TheVariants.{Fork, Join, Acquire, Release, Read, Write}
use Rattle.trace_model.specs.Theory.Dependencies.{Dependency, same_dependency, with_new}
use Rattle.trace_model.proofs.Lists.{length-push, take-take_below, take_next}
use Rattle.held_sets.specs.Tables.{keeps_locks}
use Rattle.dependencies.specs.Tables.{Listing, listing_dependencies}
use Rattle.lock_graph.specs.declared.graph.LockGraph.{LockGraph}
use Rattle.lock_graph.specs.Graph.{HoldsLock, IsGraphOf, HasGraphOf, holders}
use Rattle.lock_graph.proofs.Beginning.{graphs_begin}

pub keeps : (o : Op) → ((l : ℕ) → o ≡ Acquire l → ⊥) → ((l : ℕ) → o ≡ Release l → ⊥) → keeps_locks o ≡ true
keeps (Acquire l) a r = absurd (a l refl)
keeps (Release l) a r = absurd (r l refl)
keeps (Fork l) a r = refl
keeps (Join l) a r = refl
keeps (Read l) a r = refl
keeps (Write l) a r = refl

-- equal lists are the graph of the same dependencies
pub graph_same : (ds : List Dependency) (g h : ℕ → List ℕ) → ((lock : ℕ) → h lock ≡ g lock) → IsGraphOf ds g → IsGraphOf ds h
graph_same ds g h same is = record {
  exact = λ lock n. subst (λ (xs : List ℕ). Contains xs n ↔ HoldsLock ds n lock) (sym (same lock)) (is.exact lock n);
  ascends = λ lock. subst IsStrictlyIncreasing (sym (same lock)) (is.ascends lock);
}

-- the graph with one more of the dependencies
pub graph_next : (all : List Dependency) (k number : ℕ) (d : Dependency) (g h : ℕ → List ℕ) → number ≡ k → slice_get all number ≡ Some d → k < length all →
    ((ds : List Dependency) → number ≡ length ds → IsGraphOf ds g → IsGraphOf (ds ++ d ∷ []) h) → IsGraphOf (take k all) g → IsGraphOf (take (k + 1) all) h
graph_next all k number d g h same at within more is =
    let next : suc k ≡ k + 1 = omega arith in
    let len = length-take-le k all (omega arith) in
    subst (λ n. IsGraphOf (take n all) h) next
    (subst (λ ds. IsGraphOf ds h) (sym (take_next k all d (ap (slice_get all) (sym same) ∙ at))) (more (take k all) (omega arith) is))

pub take_first : (n k : ℕ) (all : List Dependency) → n ≤ k → take n (take k all) ≡ take n all
take_first n k all l = elim (cases_lt n k) [
  | inl less ↦ take-take_below n k all less
  | inr more ↦ let same : n ≡ k = omega arith in subst (λ m. take n (take m all) ≡ take n all) same (again n all)
]
  where
    again : (n : ℕ) (xs : List Dependency) → take n (take n xs) ≡ take n xs
    again zero xs = refl
    again (suc n) [] = refl
    again (suc n) (x ∷ xs) = ap (λ ys. x ∷ ys) (again n xs)

-- a graph of dependencies contains the graph of a prefix
pub graph_part : (all : List Dependency) (n k : ℕ) (g : LockGraph) → IsGraphOf (take k all) (holders g) → n ≤ k → k ≤ length all → HasGraphOf (take n all) g
graph_part all n k g is fewer within =
    let len = length-take-le k all within in
    subst (λ ds. HasGraphOf ds g) (take_first n k all fewer) (graphs_begin (take k all) g n is (omega arith))

-- a new dependency is after the known ones
pub grown : (ds : List Dependency) (o : Option Dependency) (k : ℕ) → k ≤ length ds → (k ≤ length (with_new ds o)) × (take k (with_new ds o) ≡ take k ds)
grown ds None k l = (l, refl)
grown ds (Some d) k l = elim (list_any (same_dependency d) ds) as (λ b. (k ≤ length (cond b ds (ds ++ d ∷ []))) × (take k (cond b ds (ds ++ d ∷ [])) ≡ take k ds)) [
  | true ↦ (l, refl)
  | false ↦ let more = length-push ds d in (omega arith, pushed k ds d l)
]
  where
    pushed : (k : ℕ) (xs : List Dependency) (d : Dependency) → k ≤ length xs → take k (xs ++ d ∷ []) ≡ take k xs
    pushed zero xs d l = refl
    pushed (suc k) [] d l = absurd (omega arith)
    pushed (suc k) (x ∷ xs) d l = ap (λ ys. x ∷ ys) (pushed k xs d (omega arith))

pub named_length : (listing : Listing) → length (listing_dependencies listing) ≡ length listing
named_length [] = refl
named_length (row ∷ listing) = ap suc (named_length listing)

-- a fact of an `Ok` value implies another
pub on_ok_then : {E A B : Type 0} (r : Result Unit E) → OnOk r A → (A → B) → OnOk r B
on_ok_then (Ok u) a f = f a
on_ok_then (Err e) a f = tt
