use Rattle.std.proofs.Common.{rules}
use Rattle.number_map.proofs.Positions.{has_found, has_added}
use Rattle.number_map.proofs.map.NumberMap.reserve_hashed.Goals as goal

pub returns-in-Occupied-clause-position : goal.returns-in-Occupied-clause-position
returns-in-Occupied-clause-position g c =
    has_found c.self.inside.entries.entries _ c.args.number c.index.result (search rules) (search rules) (search rules) c.entry.ensures.unique

pub returns-in_ok-fit-in-Vacant-clause-position : goal.returns-in_ok-fit-in-Vacant-clause-position
returns-in_ok-fit-in-Vacant-clause-position g c =
    rw c.len-count.ensures.len (has_added c.self.inside.entries.entries _ c.args.number c.args.default (search rules) (search rules) (search rules))
