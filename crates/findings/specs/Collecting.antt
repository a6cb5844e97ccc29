-- Which rows of a task a collector takes (this project's profile).
use Rattle.std.specs.Prelude.{◌≡◌, ℕ, List, [], Option}
use Rattle.std.proofs.Common.{refl, subst, sym, arith}
use Rattle.trace_model.specs.Theory.Trace.{Trace}
use Rattle.trace_model.specs.Theory.Cycles.{IsCycle}
use Rattle.trace_model.specs.Theory.Dependencies.{dependencies}
use Rattle.reports.specs.Printed.{PrintedRow}
use Rattle.fronts.specs.declared.requirements.Requirements.{Requirements}
use Rattle.cycle_search.specs.Collecting.{CollectorRules}
use Rattle.cycle_search.specs.CycleSearch.{AreAll, AreSome}
use Rattle.findings.specs.Found.{AreRowsFor}
use Rattle.findings.specs.declared.collecting.RowsRefused.{RowsRefused}
use Rattle.findings.specs.declared.collecting.RowsRefused.TheVariants.{Refused, NoMemory}

-- The rows of all cycles with the property, in lexicographic order.
abbrev pub AreRowsOfCycles : Trace → (List ℕ → Type 0) → List PrintedRow → Type 0
AreRowsOfCycles s P rows = (cycles : List (List ℕ)) × AreAll P cycles × AreRowsFor s cycles rows

-- The rows of some cycles with the property, in lexicographic order.
abbrev pub AreSomeRows : Trace → (List ℕ → Type 0) → List PrintedRow → Type 0
AreSomeRows s P rows = (cycles : List (List ℕ)) × AreSome P cycles × AreRowsFor s cycles rows

-- The collector accepts each row.
abbrev pub AcceptsRows : {C E : Type 0} → CollectorRules C PrintedRow E → C → Type 0
AcceptsRows taking now = (row : PrintedRow) → taking.accepts now row

-- The collector took the rows of all cycles with the property.
abbrev pub TookRows : {C E : Type 0} → CollectorRules C PrintedRow E → Trace → (List ℕ → Type 0) →
    C → C → Type 0
TookRows taking s P old new =
    (rows : List PrintedRow) × AreRowsOfCycles s P rows × taking.took old rows new

-- The collector may refuse the last of some rows, or an allocation fails.
abbrev pub RefusesRows : {C E : Type 0} → CollectorRules C PrintedRow E → Trace →
    (List ℕ → Type 0) →
    C → RowsRefused E → Type 0
RefusesRows taking s P old (Refused refused) =
    (rows : List PrintedRow) × AreSomeRows s P rows × taking.refuses old rows refused
RefusesRows taking s P old NoMemory = Unit {0}

-- A collector of cycles that computes their rows: the events, the bound and the requirements that
-- it reads, and the collector of the rows.
pub record RowsView (C : Type 0) : Type 0 where
  pub events : Trace
  pub bound : ℕ
  pub requirements : Option Requirements
  pub rows : C

-- Both read the same tables.
pub record ReadsSame {C : Type 0} (a b : RowsView C) : Type 0 where
  pub events : b.events ≡ a.events
  pub bound : b.bound ≡ a.bound
  pub requirements : b.requirements ≡ a.requirements

-- The collector took the rows of these cycles.
abbrev pub TookRowsFor : {C E : Type 0} → CollectorRules C PrintedRow E →
    RowsView C → List (List ℕ) → RowsView C → Type 0
TookRowsFor taking start cycles now = ReadsSame start now
    × ((rows : List PrintedRow) × AreRowsFor start.events cycles rows
    × taking.took start.rows rows now.rows)

-- The collector may refuse the last row of these cycles, or an allocation fails.
abbrev pub RefusesRowsFor : {C E : Type 0} → CollectorRules C PrintedRow E →
    RowsView C → List (List ℕ) → RowsRefused E → Type 0
RefusesRowsFor taking start cycles (Refused refused) =
    (rows : List PrintedRow) × AreRowsFor start.events cycles rows
    × taking.refuses start.rows rows refused
RefusesRowsFor taking start cycles NoMemory = Unit {0}

-- No rows, for no cycles.
pub rows_none : (s : Trace) → AreRowsFor s [] []
rows_none s = record {
  numbers = refl;
  exact = λ k d l. absurd (omega arith);
  named = λ k d l. absurd (omega arith);
}

-- The collector of cycles gives their rows to the collector of rows.
abbrev pub rows_taking : {C E : Type 0} → CollectorRules C PrintedRow E →
    CollectorRules (RowsView C) (List ℕ) (RowsRefused E)
rows_taking taking = record {
  accepts = λ now cycle. IsCycle (dependencies now.events) now.bound cycle
      × AcceptsRows taking now.rows;
  took = TookRowsFor taking;
  refuses = RefusesRowsFor taking;
  nothing = λ start. (
    record { events = refl; bound = refl; requirements = refl },
    ([], rows_none start.events, taking.nothing start.rows),
  );
  still = λ start now cycles cycle took accepts. (
    subst (λ s. IsCycle (dependencies s) now.bound cycle) (sym took.0.events)
        (subst (λ b. IsCycle (dependencies start.events) b cycle) (sym took.0.bound) accepts.0),
    λ row. taking.still start.rows now.rows took.1.0 row took.1.2 (accepts.1 row),
  );
}
