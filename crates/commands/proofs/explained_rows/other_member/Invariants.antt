use Rattle.dependencies.specs.Tables.{table_dependencies}
use Rattle.event_files.specs.ExplainedText.{stated_cycle}
use Rattle.commands.specs.ExplainedRows.{States}
use Rattle.commands.proofs.RowTests.{HoldsBelow}
use Rattle.commands.proofs.explained_rows.other_member.Given as goal

-- The lines of the members so far state their dependencies.
abbrev pub invariant-loop-index : goal.invariant-loop-index
invariant-loop-index l = HoldsBelow l.explained.cycle (States (table_dependencies l.table) (stated_cycle l.explained)) l.index
