use Rattle.std.proofs.Common.{subst}
use Rattle.number_map.specs.Positions.{HasNumberAt}
use Rattle.number_map.proofs.map.NumberMap.set.Goals as goal

pub returns-in-Some : goal.returns-in-Some
returns-in-Some g c q =
    c.set_at.ensures c.args.number q (subst (HasNumberAt c.args.self.now c.args.number) c.in-Some.is c.position.ensures)
