use Rattle.std.proofs.Common.{length}
use Rattle.cycle_search.specs.Walk.{left_in}
use Rattle.cycle_search.proofs.tarjan.Walk.run.Given as goal

abbrev pub decreases-loop : goal.decreases-loop
decreases-loop l = left_in (length l.positions) l.graph l.self
