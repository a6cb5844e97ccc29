-- The rows of all tasks, one task after another.
use Rattle.std.proofs.Common.{◌≡◌, ℕ, suc, ◌+◌, ◌<◌, ◌≤◌, inl, List, [], ◌∷◌, ◌++◌, map, slice_get, Some, refl, sym, subst, ◌∙◌, arith}
use Rattle.std.specs.List.{flat_map}
use Rattle.std.proofs.lemmas.List.{map-append}
use Rattle.std.proofs.lemmas.List.Concat.{flat_map-cons}
use Rattle.std.proofs.lemmas.List.Elements.{All-append, All-map}
use Rattle.std.proofs.lemmas.Option.{none-some, same_Some}
use Rattle.trace_model.specs.Theory.Trace.{Trace}
use Rattle.trace_model.specs.Theory.Cycles.{AreCyclesFrom, IsCycle, ListBelow}
use Rattle.trace_model.specs.Theory.Dependencies.{Dependency, dependencies}
use Rattle.trace_model.specs.Theory.Rows.{Row, AreRows, IsRow}
use Rattle.reports.specs.Printed.{PrintedRow, with_dependencies}
use Rattle.cycle_search.specs.CycleSearch.{AreSome, CycleFrom}
use Rattle.cycle_search.proofs.Listing.{all-none, some-join, some-weaker}
use Rattle.findings.specs.Collecting.{AreRowsOfCycles, AreSomeRows, rows_none}
use Rattle.findings.specs.Found.{AreRowsFor}
use Rattle.findings.proofs.Members.{numbers_of}
use Rattle.offline_report.specs.Offline.{AreExactRows}

-- The rows without their dependencies.
abbrev pub plain : List PrintedRow → List Row
plain rows = map (λ p. p.row) rows

rows_append : (s : Trace) (xs ys : List (List ℕ)) (rows more : List PrintedRow) → AreRowsFor s xs rows → AreRowsFor s ys more → AreRowsFor s (xs ++ ys) (rows ++ more)
rows_append s xs ys rows more h k = record {
  numbers = map-append (λ p. p.row.cycle) rows more ∙ (λ i. h.numbers i ++ k.numbers i);
  exact = All-append (λ p. IsRow s p.row) rows more h.exact k.exact;
  named = All-append (λ p. p ≡ with_dependencies (dependencies s) p.row) rows more h.named k.named;
}

-- Exactly the rows of a task.
pub task_rows : (s : Trace) (bound task : ℕ) (rows : List PrintedRow) → AreRowsOfCycles s (CycleFrom (dependencies s) bound task) rows → AreRows s bound task (plain rows)
task_rows s bound task rows (cycles, all, are) = record {
  cycles = subst (AreCyclesFrom (dependencies s) bound task) (sym (numbers_of rows ∙ are.numbers)) (record {
    exact = λ numbers. (all.some.sound numbers, all.complete numbers);
    in_order = all.some.in_order;
  });
  exact = All-map (IsRow s) (λ p. p.row) rows are.exact;
}

-- Some rows of the report.
pub some_rows : (s : Trace) (bound : ℕ) (P : List ℕ → Type 0) (rows : List PrintedRow) → ((numbers : List ℕ) → P numbers → IsCycle (dependencies s) bound numbers) → AreSomeRows s P rows → AreExactRows s bound (plain rows)
some_rows s bound P rows cycle (cycles, some, are) = record {
  cycles = subst (AreSome (IsCycle (dependencies s) bound)) (sym (numbers_of rows ∙ are.numbers)) (some-weaker P (IsCycle (dependencies s) bound) cycles cycle some);
  exact = All-map (IsRow s) (λ p. p.row) rows are.exact;
}

-- A cycle whose first number is at least the root.
abbrev pub CycleUp : List Dependency → ℕ → ℕ → List ℕ → Type 0
CycleUp ds bound root numbers = IsCycle ds bound numbers × ((first : ℕ) × (slice_get numbers 0 ≡ Some first) × (root ≤ first))

first_below : (a b : List ℕ) (m n : ℕ) → slice_get a 0 ≡ Some m → slice_get b 0 ≡ Some n → m < n → ListBelow a b
first_below [] b m n x y l = absurd (none-some m x)
first_below (i ∷ a) [] m n x y l = absurd (none-some n y)
first_below (i ∷ a) (j ∷ b) m n x y l = inl (omega (arith, same_Some i m x, same_Some j n y, l))

-- The rows of tasks from the root on.
pub joined : (s : Trace) (bound root : ℕ) (tasks : List (List PrintedRow)) →
    ((k : ℕ) (rows : List PrintedRow) → slice_get tasks k ≡ Some rows → AreSomeRows s (CycleFrom (dependencies s) bound (root + k)) rows) →
    AreSomeRows s (CycleUp (dependencies s) bound root) (flat_map (λ rows. rows) tasks)
joined s bound root [] each =
    let none = all-none (λ (numbers : List ℕ). ⊥) (λ n h. h) in
    ([], some-weaker (λ (numbers : List ℕ). ⊥) (CycleUp (dependencies s) bound root) [] (λ n h. absurd h) none.some, rows_none s)
joined s bound root (rows ∷ tasks) each =
    let ds = dependencies s in
    let at : root + 0 ≡ root = omega arith in
    let (cycles, some, are) = subst (λ n. AreSomeRows s (CycleFrom ds bound n) rows) at (each 0 rows refl) in
    let (others, more, rest) = joined s bound (suc root) tasks (λ k v is.
    let on : root + suc k ≡ suc root + k = omega arith in
    subst (λ n. AreSomeRows s (CycleFrom ds bound n) v) on (each (suc k) v is)) in
    subst (AreSomeRows s (CycleUp ds bound root)) (sym (flat_map-cons (λ (rows : List PrintedRow). rows) rows tasks)) (
      cycles ++ others,
      some-join (CycleFrom ds bound root) (CycleUp ds bound (suc root)) (CycleUp ds bound root) cycles others some more
          (λ n h. (h.0, (root, h.1, omega arith)))
          (λ n h. (h.0, (h.1.0, h.1.1, omega (arith, h.1.2))))
          (λ a b p q. first_below a b root q.1.0 p.1 q.1.1 (omega (arith, q.1.2))),
      rows_append s cycles others rows (flat_map (λ rows. rows) tasks) are rest,
    )
