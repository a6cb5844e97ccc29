use Rattle.std.proofs.Common.{◌≡◌, take}
use Rattle.held_sets.specs.Tables.{locks_of}
use Rattle.held_sets.proofs.set.HeldSet.of.Given as goal

abbrev pub invariant-loop-held : goal.invariant-loop-held
invariant-loop-held l = l.locks.items ≡ locks_of (take l.held-index l.holding)
