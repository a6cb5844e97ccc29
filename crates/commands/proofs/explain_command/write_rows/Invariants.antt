use Rattle.std.proofs.Common.{◌≡◌, ◌++◌}
use Rattle.commands.specs.Explain.{Explains}
use Rattle.commands.specs.Output.{Writes}
use Rattle.commands.proofs.ExplainedTexts.{shown_rows}
use Rattle.commands.proofs.explain_command.write_rows.Given as goal

-- The texts of the rows so far are written; the others follow.
abbrev pub invariant-loop-row : goal.invariant-loop-row
invariant-loop-row g l = record {
  written : Writes (g.O.Write.contents l.initial.out) (g.O.Write.contents l.out) (Explains l.snapshot (shown_rows l.snapshot l.yielded));
  rest : l.yielded ++ l.row-iterator.rest.items ≡ l.fn.rows.items;
}
