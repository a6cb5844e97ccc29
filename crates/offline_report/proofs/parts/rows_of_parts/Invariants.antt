use Rattle.std.proofs.Common.{◌≡◌, ◌+◌, ◌≤◌, ◌++◌, length, map, vec_capacity, vec_len}
use Rattle.offline_report.specs.Offline.{part_rows, rows_by_task}
use Rattle.offline_report.proofs.parts.rows_of_parts.Given as goal

-- The rows of the parts so far; the others follow, and there is memory for theirs.
abbrev pub invariant-loop-part : goal.invariant-loop-part
invariant-loop-part l = record {
  rows : rows_by_task l.tasks.items ≡ map part_rows l.yielded;
  room : vec_len l.tasks + length l.part-iterator.rest.items ≤ vec_capacity l.tasks;
  rest : l.yielded ++ l.part-iterator.rest.items ≡ l.fn.parts.items;
}
