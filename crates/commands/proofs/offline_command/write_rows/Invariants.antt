use Rattle.std.proofs.Common.{◌≡◌, ◌++◌}
use Rattle.std.specs.Io.KnownBytes.{Appends}
use Rattle.offline_report.specs.Offline.{rows_text}
use Rattle.commands.proofs.offline_command.write_rows.Given as goal

-- The texts of the rows so far are written; the others follow.
abbrev pub invariant-loop-row : goal.invariant-loop-row
invariant-loop-row g l = record {
  written : Appends (g.O.Write.contents l.initial.out) (g.O.Write.contents l.out) (rows_text l.snapshot l.yielded);
  rest : l.yielded ++ l.row-iterator.rest.items ≡ l.fn.rows.items;
}
