use Rattle.std.proofs.Common.{◌≤◌}
use Rattle.held_sets.specs.Tables.{index_for}
use Rattle.held_sets.proofs.holding.index_for.Given as goal

abbrev pub invariant-loop-index : goal.invariant-loop-index
invariant-loop-index l = l.index ≤ index_for l.lock l.locks
