use Rattle.dependencies.specs.Tables.{table_dependencies}
use Rattle.cycle_search.proofs.ThreadKeys.{HasThreadKeys}
use Rattle.cycle_search.proofs.component_threads.ComponentThreads.new.Given as goal

abbrev pub invariant-loop-number : goal.invariant-loop-number
invariant-loop-number l = HasThreadKeys (table_dependencies l.table) l.components l.cyclic l.number l.keys.items
