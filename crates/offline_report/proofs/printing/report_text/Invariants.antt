use Rattle.std.proofs.Common.{◌≡◌, ◌++◌}
use Rattle.offline_report.specs.Offline.{tasks_rows_text}
use Rattle.offline_report.proofs.printing.report_text.Given as goal

-- The first line and the texts of the tasks so far; the others follow.
abbrev pub invariant-loop-rows : goal.invariant-loop-rows
invariant-loop-rows l = record {
  written : l.text.items ≡ l.fn.found.first_line.items ++ tasks_rows_text l.snapshot l.yielded;
  rest : l.yielded ++ l.rows-iterator.rest.items ≡ l.fn.found.tasks.items;
}
