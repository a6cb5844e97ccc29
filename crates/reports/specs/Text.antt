-- The text of a report.
use Rattle.std.specs.Prelude.{◌≡◌, ℕ, List, [], ◌++◌, length, codes, decimal, Option, Some, None, is_some, count_by, Bool}
use Rattle.std.specs.List.{flat_map, range_with_len, zip}
use Rattle.trace_model.specs.Theory.Dependencies.{Dependency}
use Rattle.trace_model.specs.Theory.Rows.{Evidence}
use Rattle.reports.specs.Printed.{PrintedRow}
use Rattle.reports.specs.declared.report.Plan.{Plan}

-- Each number after one space.
abbrev pub number_list : List ℕ → List ℕ
number_list numbers = flat_map (λ n. codes " " ++ decimal n) numbers

-- The text of `count` consecutive numbers from `first` on.
abbrev pub run_text : ℕ → ℕ → List ℕ
run_text first count = number_list (range_with_len first count)

-- A member of a cycle, without the end of its line.
abbrev pub member : Dependency → List ℕ
member d = codes "  thread " ++ decimal d.thread ++ codes " lock " ++ decimal d.lock ++
    codes " holds" ++ number_list d.held

-- The line of a member of a potential cycle.
abbrev pub member_line : Dependency → List ℕ
member_line d = member d ++ codes "\n"

-- The line of a member of a confirmed cycle.
abbrev pub placed_line : Dependency × ℕ → List ℕ
placed_line m = member m.0 ++ codes " place " ++ decimal m.1 ++ codes "\n"

-- The verdict of a row and the lines of its members. For a confirmed row the line of the witness is
-- begun.
abbrev pub verdict : List Dependency → Option Evidence → List ℕ
verdict ds None = codes " potential\n" ++ flat_map member_line ds
verdict ds (Some found) = codes " confirmed\n" ++ flat_map placed_line (zip ds found.places) ++
    codes "  witness"

-- A row up to the places of its witness.
abbrev pub row_front : PrintedRow → List ℕ
row_front p = codes "cycle" ++ number_list p.row.cycle ++ verdict p.dependencies p.row.found

-- The places of the witness of a confirmed row, and the end of their line.
abbrev pub witness_end : Option Evidence → List ℕ
witness_end None = []
witness_end (Some found) = number_list found.witness ++ codes "\n"

-- The text of a row.
abbrev pub row_text : PrintedRow → List ℕ
row_text p = row_front p ++ witness_end p.row.found

-- The row is confirmed.
abbrev pub is_confirmed_row : PrintedRow → Bool
is_confirmed_row p = is_some p.row.found

-- The beginning of the first line.
abbrev pub about : ℕ → ℕ → ℕ → List ℕ
about question events bound = codes "question " ++ decimal question ++ codes " length " ++
    decimal events ++ codes " bound " ++ decimal bound

-- The rest of the first line: the numbers of rows and of confirmed rows.
abbrev pub counts : ℕ → ℕ → List ℕ
counts cycles confirmed = codes " cycles " ++ decimal cycles ++ codes " confirmed " ++
    decimal confirmed ++ codes "\n"

-- The report with these rows on the first `events` events of a trace.
abbrev pub report : ℕ → ℕ → ℕ → List PrintedRow → List ℕ
report question events bound rows = about question events bound ++
    (counts (length rows) (count_by is_confirmed_row rows) ++ flat_map row_text rows)

-- The length of the report's text, and the numbers in its first line.
abbrev pub IsPlan : ℕ → ℕ → ℕ → List PrintedRow → Plan → Type 0
IsPlan question events bound rows plan =
    (plan.length ≡ length (report question events bound rows)) × (plan.cycles ≡ length rows)
    × (plan.confirmed ≡ count_by is_confirmed_row rows)
