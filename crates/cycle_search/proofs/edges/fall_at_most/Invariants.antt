use Rattle.dependencies.specs.Tables.{table_dependencies}
use Rattle.cycle_search.proofs.EdgeLemmas.{FallBefore}
use Rattle.cycle_search.proofs.edges.fall_at_most.Given as goal

abbrev pub invariant-loop-number : goal.invariant-loop-number
invariant-loop-number l = FallBefore (table_dependencies l.table) l.values l.from l.step l.number
