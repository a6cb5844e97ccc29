use Rattle.number_map.proofs.Positions.{shown_at, not_gone}
use Rattle.number_map.proofs.map.NumberMap.get_ref.Goals as goal

pub returns-in-Some-get_index : goal.returns-in-Some-get_index
returns-in-Some-get_index g c =
    let entry = rw c.self.view_is at c.in-Some-get_index.ensures.entry in
    shown_at c.args.self.now c.args.number c.position.result c.position.ensures c.in-Some.position c.in-Some.is _ _ entry

pub returns-in-None-get_index : goal.returns-in-None-get_index
returns-in-None-get_index g c =
    let entry = rw c.self.view_is at c.in-None-get_index.ensures.entry in
    absurd (not_gone c.args.self.now c.args.number c.position.result c.position.ensures c.in-Some.position c.in-Some.is entry)
