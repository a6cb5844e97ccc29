use Rattle.std.proofs.Common.{◌+◌, ◌≤◌, length, refl, sym, subst, ap, ◌∙◌, arith}
use Rattle.fronts.specs.Overlays.{front_of}
use Rattle.sp_closure.specs.Timestamps.{AddsFronts}
use Rattle.fronts.proofs.BuildLemmas.{length_pushed}
use Rattle.sp_closure.proofs.TimestampLemmas.{more_fronts, no_fronts}
use Rattle.sp_closure.proofs.timestamps.add_fronts.Goals as goal

pub loop-slot-init : goal.loop-slot-init
loop-slot-init c =
    let old = c.args.fronts.now.items in
    record {
      count = omega (arith, ap length c.reserve.ensures.items);
      room = omega (arith, c.in_ok-reserve.ensures.ok, c.reserve.new.self.ok.0, ap length c.reserve.ensures.items);
      adds = subst (AddsFronts old (front_of c.args.none.now c.args.overlay.now) 0) (sym c.reserve.ensures.items) (no_fronts old (front_of c.args.none.now c.args.overlay.now));
    }

pub loop-slot-preserved : goal.loop-slot-preserved
loop-slot-preserved c =
    let old = c.args.fronts.now.items in
    let now = c.loop-slot.fronts.items in
    let new = c.push_reserved.new.self.items in
    let slot = c.loop-slot.slot in
    let pushed = c.push_reserved.ensures.items in
    let was = c.loop-slot.invariant in
    record {
      count = omega (arith, length_pushed now new (length now) c.count.result pushed refl, was.count);
      room = subst (λ z. length old + c.args.count ≤ z) (sym c.push_reserved.ensures.capacity) was.room;
      adds = more_fronts old (front_of c.args.none.now c.args.overlay.now) slot now new c.count.result was.adds (c.count.ensures ∙ c.front.ensures) pushed;
    }
