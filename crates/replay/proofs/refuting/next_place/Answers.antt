use Rattle.std.proofs.Common.{◌≡◌, suc, ◌+◌, get_or, Some, sym, ap, subst, ◌∙◌, arith}
use Rattle.std.proofs.lemmas.Option.{slice_get-get_or}
use Rattle.trace_model.specs.Theory.Dependencies.{dependencies}
use Rattle.trace_model.specs.Theory.Refutation.{IsFirstFrom}
use Rattle.trace_model.proofs.Lists.{at_index}
use Rattle.replay.proofs.NumberTables.{first_with}
use Rattle.replay.proofs.refuting.next_place.Goals as goal

pub returns : goal.returns
returns c s are known =
    let i = c.args.member in
    let members = c.args.members.now in
    let m = get_or members i 0 in
    let p = c.index-places-member.result in
    let at_m = slice_get-get_or members i 0 (omega (arith, c.requires.within, c.requires.as_many)) in
    let at_p = slice_get-get_or c.args.places.now i p c.requires.within ∙ ap Some (sym c.index-places-member.is) in
    let (d, at_d) = at_index (dependencies s) m (known i m at_m) in
    let up : c.get.result + 1 ≡ suc p = omega (arith, c.get.ensures) in (
      p,
      d,
      at_p,
      (m, at_m, at_d),
      subst (λ n. IsFirstFrom s d n c.place_from.result) up
          (first_with s c.args.numbers.now are m d at_d (c.get.result + 1) c.place_from.result c.place_from.ensures),
    )
