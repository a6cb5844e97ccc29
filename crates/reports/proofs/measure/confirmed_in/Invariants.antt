use Rattle.std.proofs.Common.{◌≡◌, take, count_by}
use Rattle.reports.specs.Text.{is_confirmed_row}
use Rattle.reports.proofs.measure.confirmed_in.Given as goal

abbrev pub invariant-loop-row : goal.invariant-loop-row
invariant-loop-row l = l.count ≡ count_by is_confirmed_row (take l.row-index l.rows)
