use Rattle.std.proofs.Common.{◌≡◌, nat_eq, refl, ◌∙◌}
use Rattle.std.proofs.Math.Path.{fun_ext}
use Rattle.std.specs.Map.{set_value}
use Rattle.indexmap.specs.IndexMap.{set_value_at}
use Rattle.number_map.proofs.Positions.{set_at_own}
use Rattle.number_map.proofs.map.NumberMap.get_mut.Goals as goal

pub returns-in-Some : goal.returns-in-Some
returns-in-Some g c =
    let es = c.self.inside.entries.entries in
    let own = c.position_of.ensures.key c.in-Some.position c.in-Some.is in
    let same : (λ (w : g.row.V.Denot). set_value_at es c.in-Some.position w) ≡ (λ (w : g.row.V.Denot). set_value (nat_eq c.args.number) es w) =
    fun_ext (λ w. set_at_own es c.args.number c.in-Some.position w c.get_index_mut.ensures.unique own) in
    rw (← c.self.view_is) (
      rw same refl,
      record {
        writes_back = tt;
        value = c.get_index_mut.ensures.value ∙ c.position_of.ensures.value c.in-Some.position c.in-Some.is;
      },
    )
