use Rattle.std.proofs.Common.{◌≡◌, sym, ◌∙◌, ap, subst, cond, Some, refl, slice_get}
use Rattle.std.proofs.lemmas.Option.{none-some}
use Rattle.std.specs.HashMap.{get}
use Rattle.indexmap.specs.IndexMap.{with_value_at}
use Rattle.indexmap.proofs.CallerLemmas.{keys-with_value_at}
use Rattle.trace_index.specs.Links.{same_key}
use Rattle.trace_index.specs.Positions.{HasKeyAt}
use Rattle.trace_index.proofs.KeyPositions.{written}
use Rattle.trace_index.proofs.Filtered.{covered_more, has_place}
use Rattle.number_map.proofs.Entries.{entry_at, value_at}
use Rattle.trace_index.proofs.places.write_at.Goals as goal

pub unreachable-requires : goal.unreachable-requires
unreachable-requires c =
    let m = c.places.inside.map in
    let has = subst (λ m. HasKeyAt m c.args.key (Some c.args.index)) (sym c.places.view_is) c.requires in
    let e = entry_at m.entries c.args.index c.args.key (has.key_is c.args.index refl) in
    none-some e.0 (c.in_default.ensures.value ∙ value_at m.entries c.args.index c.args.key e.0 e.1)

pub invariant_of-places : goal.invariant_of-places
invariant_of-places c =
    let m = c.places.inside.map in
    let f = c.places.inside.filter in
    let has = subst (λ m. HasKeyAt m c.args.key (Some c.args.index)) (sym c.places.view_is) c.requires in
    let known = has_place m.entries c.args.index c.args.key (has.key_is c.args.index refl) in
    covered_more f f m (with_value_at m c.args.index c.args.place) c.args.key c.args.place c.places.invariant (c.places.invariant c.args.key known.0 known.1) (λ q h. h)
    (written m c.args.index c.args.key c.args.place c.get_index_mut.ensures.unique has)

pub returns-clause-last : goal.returns-clause-last
returns-clause-last c = λ q.
    let has = subst (λ m. HasKeyAt m c.args.key (Some c.args.index)) (sym c.places.view_is) c.requires in
    written c.places.inside.map c.args.index c.args.key c.args.place c.get_index_mut.ensures.unique has q
    ∙ ap (λ m. cond (same_key c.args.key q) (Some c.args.place) (get same_key m q)) c.places.view_is

pub returns-clause-positions : goal.returns-clause-positions
returns-clause-positions c = λ q position other had.
    let has = subst (λ m. HasKeyAt m q position) (sym c.places.view_is) had in
    record {
      key_is = λ i h. subst (λ ks. slice_get ks i ≡ Some q) (sym (keys-with_value_at c.places.inside.map c.args.index c.args.place)) (has.key_is i h);
      absent = λ h. returns-clause-last c q ∙ ap (λ b. cond b (Some c.args.place) (get same_key c.args.places.now q)) other ∙ had.absent h;
    }
