use Rattle.std.proofs.Common.{◌≡◌, Some, refl, sym, ap, subst, ◌∙◌}
use Rattle.std.proofs.lemmas.Option.{none-some, same_Some}
use Rattle.std.specs.HashMap.{get}
use Rattle.trace_index.specs.Links.{same_key}
use Rattle.trace_index.specs.Positions.{HasKeyAt}
use Rattle.trace_index.proofs.Keys.{get_same}
use Rattle.number_map.proofs.Entries.{key_at, entry_at}
use Rattle.trace_index.proofs.places.last_at.Goals as goal

pub returns-in-Some-clause-value : goal.returns-in-Some-clause-value
returns-in-Some-clause-value c =
    let m = c.places.inside.map in
    let has = subst (λ m. HasKeyAt m c.args.key (Some c.args.index)) (sym c.places.view_is) c.requires in
    let k = c.in-Some._key.now in
    let p = c.in-Some.place.now in
    let at = key_at m.entries c.args.index k p c.in-Some.ensures.entry in
    let is : k ≡ c.args.key = same_Some k c.args.key (sym at ∙ has.key_is c.args.index refl) in
    let found : get same_key m c.args.key ≡ Some p = ap (get same_key m) (sym is) ∙ sym (get_same m k) ∙ c.in-Some.ensures.value in
    sym found ∙ ap (λ m. get same_key m c.args.key) c.places.view_is

pub returns-in-None : goal.returns-in-None
returns-in-None c =
    let has = subst (λ m. HasKeyAt m c.args.key (Some c.args.index)) (sym c.places.view_is) c.requires in
    let e = entry_at c.places.inside.map.entries c.args.index c.args.key (has.key_is c.args.index refl) in
    absurd (none-some (c.args.key, e.0) (c.in-None.ensures.entry ∙ e.1))
