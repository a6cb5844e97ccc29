use Rattle.std.proofs.Common.{take}
use Rattle.dependencies.specs.Tables.{table_dependencies}
use Rattle.lock_graph.specs.Graph.{IsGraphOf, holders}
use Rattle.lock_tables.proofs.tables.extend.Given as goal

-- the graph has the dependencies so far
abbrev pub invariant-loop-number : goal.invariant-loop-number
invariant-loop-number l = IsGraphOf (take l.number (table_dependencies l.table)) (holders l.graph)
