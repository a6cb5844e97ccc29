use Rattle.std.proofs.Common.{◌≡◌, length}
use Rattle.wellformed.specs.Flat.{is_taken}
use Rattle.wellformed.proofs.flat_traces.is_taken.Given as goal

abbrev pub invariant-loop-last : goal.invariant-loop-last
invariant-loop-last l = is_taken l.rest l.lock ≡ is_taken l.before l.lock

abbrev pub decreases-loop-last : goal.decreases-loop-last
decreases-loop-last l = length l.rest
