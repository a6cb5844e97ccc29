use Rattle.std.proofs.Common.{◌≡◌, ◌++◌}
use Rattle.offline_report.specs.Offline.{rows_text}
use Rattle.offline_report.proofs.printing.push_rows.Given as goal

-- The texts of the rows so far are appended; the others follow.
abbrev pub invariant-loop-row : goal.invariant-loop-row
invariant-loop-row l = record {
  written : l.text.items ≡ l.initial.text.items ++ rows_text l.snapshot l.yielded;
  rest : l.yielded ++ l.row-iterator.rest.items ≡ l.fn.rows.items;
}
