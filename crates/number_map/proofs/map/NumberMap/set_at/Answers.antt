use Rattle.std.proofs.Common.{ap}
use Rattle.number_map.proofs.Positions.{set_own, not_lost}
use Rattle.number_map.proofs.map.NumberMap.set_at.Goals.{in-Some, in_default}
use Rattle.number_map.proofs.map.NumberMap.set_at.Goals as goal

pub returns : goal.returns
returns g c number q has =
    elim c.match-get_index_mut.branch [
      | in-Some w ↦ set_own c.self.inside.entries.entries _ _ number c.args.position q c.args.value c.self.view_is (ap (λ m. m.entries.entries) w.self-inside-is) c.get_index_mut.ensures.unique has
      | in_default w ↦ absurd (not_lost c.self.inside.entries.entries _ number c.args.position c.self.view_is has w.in_default.ensures.value)
    ]
