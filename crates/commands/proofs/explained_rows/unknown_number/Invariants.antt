use Rattle.dependencies.specs.Tables.{table_dependencies}
use Rattle.commands.specs.ExplainedRows.{IsDependencyNumber}
use Rattle.commands.proofs.RowTests.{HoldsBelow}
use Rattle.commands.proofs.explained_rows.unknown_number.Given as goal

-- The numbers so far are known.
abbrev pub invariant-loop-number : goal.invariant-loop-number
invariant-loop-number l = HoldsBelow l.numbers (IsDependencyNumber (table_dependencies l.table)) l.number-index
