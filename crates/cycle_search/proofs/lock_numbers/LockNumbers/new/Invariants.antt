use Rattle.std.proofs.Common.{◌≡◌, ◌≤◌, length, map, take, vec_capacity, vec_len}
use Rattle.dependencies.specs.Tables.{table_dependencies}
use Rattle.cycle_search.specs.LockNumbers.{AreLockNumbers}
use Rattle.cycle_search.proofs.lock_numbers.LockNumbers.new.Given as goal

abbrev pub invariant-loop-number : goal.invariant-loop-number
invariant-loop-number l = record {
  locks : l.locks.items ≡ map (λ d. d.lock) (take l.number (table_dependencies l.table));
  each : length l.positions.items ≡ l.number;
  counted : (vec_len l.locks ≡ l.number) × (vec_len l.firsts ≡ l.number);
  room : (length (table_dependencies l.table) ≤ vec_capacity l.locks) × (length (table_dependencies l.table) ≤ vec_capacity l.positions) × (length (table_dependencies l.table) ≤ vec_capacity l.firsts);
  numbered : AreLockNumbers (table_dependencies l.table) l.positions.items;
}
