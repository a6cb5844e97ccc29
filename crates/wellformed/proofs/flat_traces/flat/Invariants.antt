use Rattle.wellformed.proofs.Taken.{IsFlatBelow}
use Rattle.wellformed.proofs.flat_traces.flat.Given as goal

abbrev pub invariant-loop-place : goal.invariant-loop-place
invariant-loop-place l = IsFlatBelow l.events l.place
