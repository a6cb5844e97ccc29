use Rattle.std.proofs.Common.{ℕ, ◌<◌}
use Rattle.trace_model.specs.Theory.Cycles.{Member}
use Rattle.trace_model.specs.Theory.Dependencies.{Dependency}
use Rattle.dependencies.specs.Tables.{table_dependencies}
use Rattle.commands.specs.ExplainedRows.{AreDistinctMembers}
use Rattle.commands.proofs.explained_rows.is_apart.Given as goal

-- The member is apart from those so far.
abbrev pub invariant-loop-earlier : goal.invariant-loop-earlier
invariant-loop-earlier l = (j : ℕ) (a b : Dependency) → j < l.earlier → Member (table_dependencies l.table) l.numbers j a → Member (table_dependencies l.table) l.numbers l.index b → AreDistinctMembers a b
