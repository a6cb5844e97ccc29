use Rattle.number_map.proofs.Positions.{shown_at, not_gone}
use Rattle.std.proofs.Common.{Some, refl}
use Rattle.number_map.proofs.map.NumberMap.get_at.Goals as goal

pub returns-in-Some : goal.returns-in-Some
returns-in-Some g c number has =
    let entry = rw c.self.view_is at c.in-Some.ensures.entry in
    shown_at c.args.self.now number (Some c.args.position) has c.args.position refl _ _ entry

pub returns-in-None : goal.returns-in-None
returns-in-None g c number has =
    let entry = rw c.self.view_is at c.in-None.ensures.entry in
    absurd (not_gone c.args.self.now number (Some c.args.position) has c.args.position refl entry)
