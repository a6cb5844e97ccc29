use Rattle.std.proofs.Common.{◌≡◌, ◌≤◌, get_or, length, sym, ap, subst, arith}
use Rattle.std.proofs.lemmas.Option.{slice_get-get_or}
use Rattle.trace_model.proofs.Lists.{length-push}
use Rattle.replay.proofs.NumberTables.{AreFirst, first_unknown, first_places_are, first_more}
use Rattle.replay.proofs.refuting.first_places.Goals as goal

pub returns-in-None : goal.returns-in-None
returns-in-None c s are =
    let members = c.args.members.now in
    let i = c.loop-number.number-index in
    first_unknown s c.args.numbers.now are members c.loop-number.places.items i (get_or members i 0)
    c.loop-number.invariant.sized c.loop-number.invariant.first (slice_get-get_or members i 0 c.loop-number-test.true) c.in-None.ensures

pub loop-number-preserved : goal.loop-number-preserved
loop-number-preserved c =
    let members = c.args.members.now in
    let i = c.loop-number.number-index in
    let old = c.loop-number.places.items in
    let h = c.loop-number.invariant in
    let e = c.push_reserved.ensures in
    record {
      sized = omega (arith, ap length e.items, length-push old c.in-Some.place, h.sized);
      room = subst (λ z. length members ≤ z) (sym e.capacity) h.room;
      first = subst (AreFirst c.args.numbers.now members) (sym e.items)
          (first_more c.args.numbers.now members old i c.in-Some.place (get_or members i 0) h.sized (slice_get-get_or members i 0 c.loop-number-test.true) c.in-Some.ensures h.first);
    }

pub returns : goal.returns
returns c s are =
    let members = c.args.members.now in
    let h = c.loop-number.invariant in
    let whole : length c.loop-number.places.items ≡ length members = omega (arith, h.sized, c.loop-number-test.false, c.loop-number.auto.number-index-end) in
    first_places_are s c.args.numbers.now are members c.loop-number.places.items whole h.first
