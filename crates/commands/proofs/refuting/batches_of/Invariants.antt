use Rattle.std.proofs.Common.{◌≡◌, ◌++◌}
use Rattle.commands.specs.Explain.{all_rows}
use Rattle.commands.proofs.Batches.{rows_so_far}
use Rattle.commands.proofs.refuting.batches_of.Given as goal

-- The batches have the rows of the tasks so far; the other tasks follow.
abbrev pub invariant-loop-rows : goal.invariant-loop-rows
invariant-loop-rows l = record {
  have : rows_so_far l.batches.items l.batch ≡ all_rows l.yielded;
  rest : l.yielded ++ l.rows-iterator.rest.items ≡ l.fn.tasks.items;
}

-- They also have the rows of this task so far; the others follow.
abbrev pub invariant-loop-row : goal.invariant-loop-row
invariant-loop-row l = record {
  have : rows_so_far l.batches.items l.batch ≡ rows_so_far l.initial.batches.items l.initial.batch ++ l.yielded;
  rest : l.yielded ++ l.row-iterator.rest.items ≡ l.initial.row-iterator.rest.items;
}
