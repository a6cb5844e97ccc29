use Rattle.std.proofs.Common.{Some, refl}
use Rattle.number_map.proofs.Positions.{is_there}
use Rattle.number_map.proofs.map.NumberMap.reserve_position.Goals as goal

pub returns-then-is_at-clause-ok : goal.returns-then-is_at-clause-ok
returns-then-is_at-clause-ok g c =
    is_there c.args.self.now c.args.number (Some c.candidate-candidate.result) (rw c.self.view_is at (c.is_at.ensures c.if-is_at.true)) c.candidate-candidate.result refl
