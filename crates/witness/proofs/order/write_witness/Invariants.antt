use Rattle.std.proofs.Common.{◌≡◌}
use Rattle.trace_model.specs.Theory.Closure.{ascending_places}
use Rattle.fronts.specs.State.{included_set}
use Rattle.witness.proofs.order.write_witness.Given as goal

abbrev pub invariant-loop-p : goal.invariant-loop-p
invariant-loop-p l = l.places.items ≡ ascending_places (included_set l.fronts) l.p
