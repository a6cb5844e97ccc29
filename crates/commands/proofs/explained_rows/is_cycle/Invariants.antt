use Rattle.std.proofs.Common.{ℕ, ◌<◌}
use Rattle.dependencies.specs.Tables.{table_dependencies}
use Rattle.commands.specs.ExplainedRows.{FitsAt}
use Rattle.commands.proofs.explained_rows.is_cycle.Given as goal

-- The members so far fit.
abbrev pub invariant-loop-index : goal.invariant-loop-index
invariant-loop-index l = (j : ℕ) → j < l.index → FitsAt (table_dependencies l.table) l.numbers j
