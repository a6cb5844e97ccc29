use Rattle.std.proofs.Common.{◌≡◌, length}
use Rattle.dependencies.specs.Tables.{table_dependencies}
use Rattle.cycle_search.proofs.EdgeLemmas.{MarkedBefore}
use Rattle.cycle_search.proofs.edges.same_along_edge.Given as goal

abbrev pub invariant-loop-number : goal.invariant-loop-number
invariant-loop-number l = record {
  each : length l.marks.items ≡ length (table_dependencies l.table);
  marked : MarkedBefore (table_dependencies l.table) l.values l.marks.items l.number;
}
