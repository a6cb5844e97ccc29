use Rattle.std.proofs.Common.{◌≡◌, nat_eq, slice_get, is_some, sym, ap, ◌∙◌}
use Rattle.std.proofs.lemmas.Bool.{eqb-true}
use Rattle.std.specs.Map.{keys_of, values_of, lookup}
use Rattle.number_map.proofs.Entries.{at_position, not_some, if_some}
use Rattle.number_map.proofs.map.uncached_position_of.Goals as goal

pub returns-in-None : goal.returns-in-None
returns-in-None g c = record {
  key = λ i h. at_position nat_eq eqb-true c.args.number (keys_of c.args.entries.now.entries) i (sym c.get_index_of.ensures.index ∙ h);
  value = λ i h. if_some c.get_index_of.result i (λ j. slice_get (values_of c.args.entries.now.entries) j ≡ lookup (nat_eq c.args.number) c.args.entries.now.entries) h c.get_index_of.ensures.value;
  absent = λ h. not_some _ (sym (ap is_some h) ∙ c.get_index_of.ensures.found);
}
