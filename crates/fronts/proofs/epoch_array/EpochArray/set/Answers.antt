use Rattle.std.proofs.lemmas.Grind.{elements}
use Rattle.std.proofs.Common.{arith}
use Rattle.fronts.proofs.epoch_array.EpochArray.set.Goals as goal

pub invariant_of-self : goal.invariant_of-self
invariant_of-self g c = grind (arith, elements)

pub returns : goal.returns
returns g c = grind (arith, elements)
