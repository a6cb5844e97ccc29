use Rattle.std.proofs.Common.{rules, Some, refl}
use Rattle.number_map.proofs.Positions.{is_there}
use Rattle.number_map.proofs.map.NumberMap.reserve_uncached.Goals.{in-Some, in-None+in_ok-position-in-None}
use Rattle.number_map.proofs.map.NumberMap.reserve_uncached.Goals as goal

pub returns-clause-ok : goal.returns-clause-ok
returns-clause-ok g c =
    elim c.match-position_in_order.branch [
      | in-Some w ↦ is_there _ c.args.number (Some c.match-position_in_order.position) (search rules) c.match-position_in_order.position refl
      | in-None+in_ok-position-in-None w ↦ search rules
    ]
