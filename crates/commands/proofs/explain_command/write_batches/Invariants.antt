use Rattle.std.proofs.Common.{◌≡◌, ◌++◌}
use Rattle.offline_report.specs.Offline.{printed_rows}
use Rattle.commands.specs.Explain.{Explains, all_rows}
use Rattle.commands.specs.Output.{Writes}
use Rattle.commands.proofs.explain_command.write_batches.Given as goal

-- The texts of the rows of the batches so far are written; the others follow.
abbrev pub invariant-loop-rows : goal.invariant-loop-rows
invariant-loop-rows g l = record {
  written : Writes (g.O.Write.contents l.initial.out) (g.O.Write.contents l.out) (Explains l.refuter (printed_rows l.refuter (all_rows l.yielded)));
  rest : l.yielded ++ l.rows-iterator.rest.items ≡ l.fn.batches.items;
}
