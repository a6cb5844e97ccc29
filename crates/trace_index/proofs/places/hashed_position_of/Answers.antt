use Rattle.std.proofs.Common.{sym, ◌∙◌, ap, subst, is_some}
use Rattle.std.specs.Map.{keys_of}
use Rattle.trace_index.specs.Positions.{HasKeyAt}
use Rattle.trace_index.specs.contracts.row.KeyPartialEq.TheImpl.{eq-value}
use Rattle.trace_index.proofs.Keys.{get_same, tested}
use Rattle.number_map.proofs.Entries.{at_position, not_some}
use Rattle.trace_index.proofs.places.hashed_position_of.Goals as goal

pub returns : goal.returns
returns c =
    let m = c.places.inside.map in
    subst (λ m. HasKeyAt m c.args.key c.get_index_of.result) c.places.view_is (record {
      key_is = λ i h. at_position eq-value.it tested c.args.key (keys_of m.entries) i (sym c.get_index_of.ensures.index ∙ h);
      absent = λ h. sym (get_same m c.args.key) ∙ not_some _ (sym (ap is_some h) ∙ c.get_index_of.ensures.found);
    })
