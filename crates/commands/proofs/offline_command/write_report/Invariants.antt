use Rattle.std.proofs.Common.{◌≡◌, ◌++◌}
use Rattle.std.specs.Io.KnownBytes.{Appends}
use Rattle.offline_report.specs.Offline.{tasks_rows_text}
use Rattle.commands.proofs.offline_command.write_report.Given as goal

-- The first line and the texts of the tasks so far are written; the others follow.
abbrev pub invariant-loop-rows : goal.invariant-loop-rows
invariant-loop-rows g l = record {
  written : Appends (g.O.Write.contents l.fn.out) (g.O.Write.contents l.out) (l.fn.found.first_line.items ++ tasks_rows_text l.snapshot l.yielded);
  rest : l.yielded ++ l.rows-iterator.rest.items ≡ l.fn.found.tasks.items;
}
