-- The parts of rows.
use Rattle.std.proofs.Common.{◌≡◌, ℕ, ◌+◌, List, [], ◌∷◌, length, map, flat_map, sum_by, count_by, refl, sym, ap, ◌∙◌, arith, length-append}
use Rattle.std.specs.List.{AllZip}
use Rattle.std.proofs.lemmas.List.{length-map}
use Rattle.std.proofs.lemmas.List.Concat.{flat_map-cons}
use Rattle.std.proofs.lemmas.List.Sums.{sum_by-cons}
use Rattle.reports.specs.Printed.{PrintedRow}
use Rattle.reports.specs.Text.{row_text, is_confirmed_row}
use Rattle.offline_report.specs.Offline.{IsPartOf, IsSize, part_rows, size_of, tasks_text}
use Rattle.offline_report.specs.Parts.{PartView}
use Rattle.offline_report.proofs.PlainRows.{plain}

-- The parts count the rows and the confirmed rows.
pub cycles_are : (tasks : List (List PrintedRow)) (parts : List PartView) → AllZip IsPartOf tasks parts → sum_by (λ part. length (part_rows part)) parts ≡ sum_by (λ rows. length rows) tasks
cycles_are [] [] h = refl
cycles_are [] (p ∷ parts) h = absurd h
cycles_are (rows ∷ tasks) [] h = absurd h
cycles_are (rows ∷ tasks) (p ∷ parts) h =
    let one : length (part_rows p) ≡ length rows = ap length h.0.plain ∙ length-map rows (λ (p : PrintedRow). p.row) in
    sum_by-cons (λ (part : PartView). length (part_rows part)) p parts ∙ (λ i. one i + cycles_are tasks parts h.1 i) ∙ sym (sum_by-cons (λ (rows : List PrintedRow). length rows) rows tasks)

pub confirmed_are : (tasks : List (List PrintedRow)) (parts : List PartView) → AllZip IsPartOf tasks parts → sum_by (λ part. part.confirmed) parts ≡ sum_by (λ rows. count_by is_confirmed_row rows) tasks
confirmed_are [] [] h = refl
confirmed_are [] (p ∷ parts) h = absurd h
confirmed_are (rows ∷ tasks) [] h = absurd h
confirmed_are (rows ∷ tasks) (p ∷ parts) h =
    sum_by-cons (λ (part : PartView). part.confirmed) p parts ∙ (λ i. h.0.confirmed i + confirmed_are tasks parts h.1 i) ∙ sym (sum_by-cons (λ (rows : List PrintedRow). count_by is_confirmed_row rows) rows tasks)

-- The parts have the rows, without the dependencies of their members.
pub rows_are : (tasks : List (List PrintedRow)) (parts : List PartView) → AllZip IsPartOf tasks parts → map part_rows parts ≡ map plain tasks
rows_are [] [] h = refl
rows_are [] (p ∷ parts) h = absurd h
rows_are (rows ∷ tasks) [] h = absurd h
rows_are (rows ∷ tasks) (p ∷ parts) h = λ i. h.0.plain i ∷ rows_are tasks parts h.1 i

-- The sizes of the parts are together that of the text of the rows.
pub sizes_are : (tasks : List (List PrintedRow)) (parts : List PartView) → AllZip IsPartOf tasks parts → IsSize (sum_by size_of parts) (tasks_text tasks)
sizes_are [] [] h = record { least = omega arith; exact = λ few. refl }
sizes_are [] (p ∷ parts) h = absurd h
sizes_are (rows ∷ tasks) [] h = absurd h
sizes_are (rows ∷ tasks) (p ∷ parts) h =
    let f : List PrintedRow → List ℕ = λ rows. flat_map row_text rows in
    let rest = sizes_are tasks parts h.1 in
    let sum = sum_by-cons size_of p parts in
    let long = ap length (flat_map-cons f rows tasks) ∙ length-append (f rows) (tasks_text tasks) in
    record {
      least = omega (arith, sum, long, h.0.bytes.least, rest.least);
      exact = λ few.
          let one = h.0.bytes.exact (omega (arith, few, sum)) in
          let others = rest.exact (omega (arith, few, sum)) in
          omega (arith, sum, long, one, others);
    }
