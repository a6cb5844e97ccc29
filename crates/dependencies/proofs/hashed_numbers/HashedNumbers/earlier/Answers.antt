use Rattle.std.proofs.Common.{subst, ◌∙◌}
use Rattle.dependencies.specs.HashedNumbers.{has_number_room}
use Rattle.dependencies.proofs.Hashed.{StepsBack, steps_back}
use Rattle.dependencies.proofs.hashed_numbers.HashedNumbers.earlier.Goals as goal

pub returns : goal.returns
returns c = λ hash at.
    let i = c.self.inside in
    let back = subst (StepsBack i.links.items) c.self.view_is (steps_back i.lasts i.links.items (has_number_room i.lasts i.links) c.self.invariant) in
    c.get.ensures ∙ back c.args.number hash c.index.result.now c.index.ensures at
