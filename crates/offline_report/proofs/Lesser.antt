-- A report that lacks rows is not longer.
use Rattle.std.proofs.Common.{◌≡◌, ℕ, zero, suc, ◌+◌, ◌≤◌, List, [], ◌∷◌, length, map, slice_get, option_map, Some, sum_by, refl, sym, ap, subst, ◌∙◌, arith}
use Rattle.std.specs.List.{All, Contains, flat_map}
use Rattle.std.proofs.lemmas.List.{map-append}
use Rattle.std.proofs.lemmas.List.Concat.{flat_map-cons}
use Rattle.std.proofs.lemmas.List.Elements.{All-map}
use Rattle.std.proofs.lemmas.List.Sums.{sum_by-append, sum_by-cons}
use Rattle.std.proofs.lemmas.Option.{none-some, same_Some, slice_get-map, slice_get_within, get_or_from_slice_get}
use Rattle.trace_model.specs.Theory.Trace.{Trace}
use Rattle.trace_model.specs.Theory.Cycles.{InOrder, ListBelow}
use Rattle.trace_model.specs.Theory.Dependencies.{dependencies}
use Rattle.trace_model.specs.Theory.Rows.{Row, AreRows, IsRow}
use Rattle.trace_model.proofs.Theory.Unique.{Has, below_asym, contains_had, has_contained, row_unique}
use Rattle.reports.specs.Printed.{PrintedRow}
use Rattle.cycle_search.specs.CycleSearch.{CycleFrom}
use Rattle.findings.specs.Collecting.{AreSomeRows}
use Rattle.findings.proofs.Members.{numbers_of}
use Rattle.offline_report.proofs.PlainRows.{plain}

-- Lists in the order of keys. The weight of some of the elements is at most that of all.
module _ {X : Type 0} (key : X → List ℕ) (weight : X → ℕ) where
  abbrev AreOrdered : List X → Type 0
  AreOrdered xs = InOrder (map key xs)

  after_first : (x : X) (xs : List X) → AreOrdered (x ∷ xs) → AreOrdered xs
  after_first x xs o i j a b l p q = o (suc i) (suc j) a b (omega (arith, l)) p q

  below_later : (x : X) (xs : List X) → AreOrdered (x ∷ xs) → (y : X) → Has xs y → ListBelow (key x) (key y)
  below_later x xs o y (k, at) = o 0 (suc k) (key x) (key y) (omega arith) refl (slice_get-map key xs k ∙ ap (option_map key) at)

  pub lesser : (xs ys : List X) → AreOrdered xs → AreOrdered ys → ((x : X) → Has xs x → Has ys x) → sum_by weight xs ≤ sum_by weight ys
  lesser [] ys o p within = omega arith
  lesser (x ∷ xs) [] o p within = let (k, at) = within x (zero, refl) in absurd (none-some x at)
  lesser (x ∷ xs) (y ∷ ys) o p within =
      go (within x (zero, refl)) (lesser xs ys (after_first x xs o) (after_first y ys p)) (lesser (x ∷ xs) ys o (after_first y ys p))
    where
      go : Has (y ∷ ys) x → (((z : X) → Has xs z → Has ys z) → sum_by weight xs ≤ sum_by weight ys) → (((z : X) → Has (x ∷ xs) z → Has ys z) → sum_by weight (x ∷ xs) ≤ sum_by weight ys) →
          sum_by weight (x ∷ xs) ≤ sum_by weight (y ∷ ys)
      go (zero, e) both one =
          let same : y ≡ x = same_Some y x e in
          let rest = both (λ z h. later z h (within z (suc h.0, h.1))) in
          omega (arith, sum_by-cons weight x xs, sum_by-cons weight y ys, ap weight same, rest)
        where
          later : (z : X) → Has xs z → Has (y ∷ ys) z → Has ys z
          later z h (zero, at) =
              let below = below_later x xs o z h in
              let same : z ≡ x = sym (same_Some y z at) ∙ same_Some y x e in
              absurd (below_asym (key x) (key x) (subst (λ u. ListBelow (key x) (key u)) same below) (subst (λ u. ListBelow (key x) (key u)) same below))
          later z h (suc k, at) = (k, at)
      go (suc k, e) both one =
          let rest = one (λ z h. later z h (within z h)) in
          omega (arith, sum_by-cons weight y ys, rest)
        where
          -- The first of the others is before x, and x is not after any of its own list.
          later : (z : X) → Has (x ∷ xs) z → Has (y ∷ ys) z → Has ys z
          later z h (suc j, at) = (j, at)
          later z (zero, first) (zero, at) =
              let below = below_later y ys p x (k, e) in
              let same : x ≡ y = same_Some x z first ∙ sym (same_Some y z at) in
              absurd (below_asym (key y) (key y) (subst (λ u. ListBelow (key y) (key u)) same below) (subst (λ u. ListBelow (key y) (key u)) same below))
          later z (suc j, more) (zero, at) =
              let one = below_later y ys p x (k, e) in
              let two = below_later x xs o z (j, more) in
              let same : z ≡ y = sym (same_Some y z at) in
              absurd (below_asym (key y) (key x) one (subst (λ u. ListBelow (key x) (key u)) same two))

all_at : {X : Type 0} (P : X → Type 0) (xs : List X) (k : ℕ) (x : X) → All P xs → slice_get xs k ≡ Some x → P x
all_at P xs k x all at = subst P (get_or_from_slice_get xs k x x at) (all k x (slice_get_within xs k x at))

from_map : {X Y : Type 0} (f : X → Y) (xs : List X) (k : ℕ) (y : Y) → slice_get (map f xs) k ≡ Some y → (x : X) × (slice_get xs k ≡ Some x) × (f x ≡ y)
from_map f [] k y at = absurd (none-some y at)
from_map f (x ∷ xs) zero y at = (x, refl, same_Some (f x) y at)
from_map f (x ∷ xs) (suc k) y at = from_map f xs k y at

abbrev cycle_of : Row → List ℕ
cycle_of row = row.cycle

module _ (s : Trace) (bound : ℕ) (weight : Row → ℕ) where
  -- The weight of some rows of a task is at most that of all.
  of_task : (task : ℕ) (rows : List PrintedRow) (all : List Row) → AreSomeRows s (CycleFrom (dependencies s) bound task) rows → AreRows s bound task all →
      sum_by weight (plain rows) ≤ sum_by weight all
  of_task task rows all (cycles, some, are) exact =
      let same = numbers_of rows ∙ are.numbers in
      lesser cycle_of weight (plain rows) all (subst InOrder (sym same) some.in_order) exact.cycles.in_order (λ row h.
      let here = contains_had (map cycle_of (plain rows)) row.cycle (h.0, slice_get-map cycle_of (plain rows) h.0 ∙ ap (option_map cycle_of) h.1) in
      let cycle = some.sound row.cycle (subst (λ (xs : List (List ℕ)). Contains xs row.cycle) same here) in
      let there = has_contained (map cycle_of all) row.cycle ((exact.cycles.exact row.cycle).1 cycle) in
      let (other, at, e) = from_map cycle_of all there.0 row.cycle there.1 in
      let is = all_at (IsRow s) (plain rows) h.0 row (All-map (IsRow s) (λ p. p.row) rows are.exact) h.1 in
      let unique = row_unique s other row e (all_at (IsRow s) all there.0 other exact.exact at) is in
      (there.0, at ∙ ap Some unique))

  -- The weight of some rows of tasks is at most that of all.
  pub of_tasks : (root : ℕ) (tasks : List (List PrintedRow)) (all : List (List Row)) → length tasks ≡ length all →
      ((k : ℕ) (rows : List PrintedRow) → slice_get tasks k ≡ Some rows → AreSomeRows s (CycleFrom (dependencies s) bound (root + k)) rows) →
      ((k : ℕ) (rows : List Row) → slice_get all k ≡ Some rows → AreRows s bound (root + k) rows) →
      sum_by weight (plain (flat_map (λ rows. rows) tasks)) ≤ sum_by weight (flat_map (λ rows. rows) all)
  of_tasks root [] all e some exact = omega arith
  of_tasks root (rows ∷ tasks) [] e some exact = absurd (omega (arith, e))
  of_tasks root (rows ∷ tasks) (v ∷ all) e some exact =
      let at : root + 0 ≡ root = omega arith in
      let one = of_task root rows v (subst (λ n. AreSomeRows s (CycleFrom (dependencies s) bound n) rows) at (some 0 rows refl)) (subst (λ n. AreRows s bound n v) at (exact 0 v refl)) in
      let rest = of_tasks (suc root) tasks all (omega (arith, e))
      (λ k x is. let on : root + suc k ≡ suc root + k = omega arith in subst (λ n. AreSomeRows s (CycleFrom (dependencies s) bound n) x) on (some (suc k) x is))
      (λ k x is. let on : root + suc k ≡ suc root + k = omega arith in subst (λ n. AreRows s bound n x) on (exact (suc k) x is)) in
      let left = ap (λ (xs : List PrintedRow). sum_by weight (plain xs)) (flat_map-cons (λ (rows : List PrintedRow). rows) rows tasks)
      ∙ ap (sum_by weight) (map-append (λ (p : PrintedRow). p.row) rows (flat_map (λ rows. rows) tasks))
      ∙ sum_by-append weight (plain rows) (plain (flat_map (λ rows. rows) tasks)) in
      let right = ap (sum_by weight) (flat_map-cons (λ (rows : List Row). rows) v all) ∙ sum_by-append weight v (flat_map (λ rows. rows) all) in
      omega (arith, one, rest, left, right)
