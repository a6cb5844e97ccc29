use Rattle.std.proofs.Common.{◌∙◌}
use Rattle.number_map.proofs.Positions.{is_found}
use Rattle.number_map.proofs.map.NumberMap.find.Goals as goal

pub returns-clause-found : goal.returns-clause-found
returns-clause-found g c =
    c.is_some.ensures ∙ is_found c.args.self.now c.args.number c.find_position.result c.find_position.ensures.position
