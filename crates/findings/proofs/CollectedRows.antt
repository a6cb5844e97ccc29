-- What a collector of rows took, after one more cycle and at the end.
use Rattle.std.proofs.Common.{◌≡◌, ℕ, List, [], ◌∷◌, ◌++◌, Result, Ok, Err, subst, ◌∙◌}
use Rattle.reports.specs.Printed.{PrintedRow}
use Rattle.cycle_search.specs.Collecting.{CollectorRules, TakesAll}
use Rattle.findings.specs.Found.{AreRowsFor, IsRowFor}
use Rattle.findings.specs.Collecting.{ReadsSame, RefusesRows, RefusesRowsFor, RowsView, TookRows, TookRowsFor, rows_taking}
use Rattle.findings.specs.declared.collecting.RowsRefused.{RowsRefused}
use Rattle.findings.specs.declared.collecting.RowsRefused.TheVariants.{Refused, NoMemory}
use Rattle.findings.proofs.Members.{rows_push}

module _ {C E : Type 0} (taking : CollectorRules C PrintedRow E) (start old : RowsView C) (before : List (List ℕ)) (cycle : List ℕ) (row : PrintedRow)
    (took : TookRowsFor taking start before old) (is : IsRowFor old.events cycle row) where
  one_row : IsRowFor start.events cycle row
  one_row = subst (λ s. IsRowFor s cycle row) took.0.events is

  pub took_row : (new : RowsView C) → ReadsSame old new →
      ((from : C) (rows : List PrintedRow) → taking.took from rows old.rows → taking.took from (rows ++ row ∷ []) new.rows) →
      TookRowsFor taking start (before ++ cycle ∷ []) new
  took_row new same takes = (
    record { events = same.events ∙ took.0.events; bound = same.bound ∙ took.0.bound; requirements = same.requirements ∙ took.0.requirements },
    (took.1.0 ++ row ∷ [], rows_push start.events before took.1.0 cycle row took.1.1 one_row, takes start.rows took.1.0 took.1.2),
  )

  pub refused_row : (refused : E) →
      ((from : C) (rows : List PrintedRow) → taking.took from rows old.rows → taking.refuses from (rows ++ row ∷ []) refused) →
      RefusesRowsFor taking start (before ++ cycle ∷ []) (Refused refused)
  refused_row refused refuses =
      (took.1.0 ++ row ∷ [], rows_push start.events before took.1.0 cycle row took.1.1 one_row, refuses start.rows took.1.0 took.1.2)

module _ {C E : Type 0} (taking : CollectorRules C PrintedRow E) (P : List ℕ → Type 0) (start new : RowsView C) (answer : Result (Unit {0}) (RowsRefused E))
    (takes : TakesAll (rows_taking taking) P start answer new) where
  pub took_all : (done : Unit {0}) → answer ≡ Ok done → ReadsSame start new × TookRows taking start.events P start.rows new.rows
  took_all done is =
      let (after, (more, e, all), (same, (rows, are, took))) =
      (subst (λ r. TakesAll (rows_taking taking) P start r new) is takes) start [] ((rows_taking taking).nothing start) in
      (same, (rows, (more, all, subst (λ z. AreRowsFor start.events z rows) e are), took))

  pub refused_all : (refused : RowsRefused E) → answer ≡ Err refused → RefusesRows taking start.events P start.rows refused
  refused_all (Refused refused) is =
      let (after, (more, e, some), (rows, are, refuses)) =
      (subst (λ r. TakesAll (rows_taking taking) P start r new) is takes) start [] ((rows_taking taking).nothing start) in
      (rows, (more, some, subst (λ z. AreRowsFor start.events z rows) e are), refuses)
  refused_all NoMemory is = tt
