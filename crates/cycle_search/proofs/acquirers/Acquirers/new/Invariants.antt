use Rattle.std.proofs.Common.{◌≡◌, ◌≤◌, length, vec_capacity, vec_len}
use Rattle.dependencies.specs.Tables.{table_dependencies}
use Rattle.cycle_search.proofs.Listed.{HasKeys}
use Rattle.cycle_search.proofs.acquirers.Acquirers.new.Given as goal

abbrev pub invariant-loop-number : goal.invariant-loop-number
invariant-loop-number l = record {
  has : HasKeys (table_dependencies l.table) l.number l.keys.items;
  counted : vec_len l.keys ≡ l.number;
  room : length (table_dependencies l.table) ≤ vec_capacity l.keys;
}
