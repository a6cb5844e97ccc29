use Rattle.std.proofs.Common.{length}
use Rattle.cycle_search.specs.Walk.{KeepsPath}
use Rattle.cycle_search.proofs.tarjan.Walk.close.Given as goal

abbrev pub decreases-loop-lock : goal.decreases-loop-lock
decreases-loop-lock l = length l.self.stack.items

abbrev pub invariant-loop-lock : goal.invariant-loop-lock
invariant-loop-lock l = KeepsPath l.fn.self l.self
