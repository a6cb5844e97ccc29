use Rattle.std.proofs.Common.{sym, subst, arith}
use Rattle.fronts.specs.Slots.{slots_of}
use Rattle.fronts.proofs.MemberLemmas.{AreSettling, settling_on, settling_ends, settling_less, moved_none}
use Rattle.fronts.proofs.members.advance_members.Goals as goal

pub loop-k-init : goal.loop-k-init
loop-k-init c = record {
  members = c.requires.members;
  moved = moved_none c.args.prefix.slot c.args.members.now;
  within = c.requires.within;
  more = omega arith;
  has = c.requires.has;
  ahead = λ set a h. (a, h);
}

pub returns-in_default-move_one : goal.returns-in_default-move_one
returns-in_default-move_one c =
    let ended = settling_ends c.args.index.now.events (slots_of c.args.threads.now) c.args.threads.now.count c.args.prefix c.loop-k.count c.args.members.now c.loop-k.members c.move_one.new.members c.in-Some.k
    c.in_default-move_one.ensures c.requires.slots c.in-Some.ensures.some c.loop-k.invariant in
    record { members = ended.members; moved = ended.moved; advanced = tt; ahead = ended.ahead }

pub loop-k-smaller : goal.loop-k-smaller
loop-k-smaller c =
    settling_less c.args.index.now.events (slots_of c.args.threads.now) c.loop-k.count c.loop-k.members c.move_one.new.members c.in-Some.k c.in-Some-move_one.ensures.0 c.loop-k.invariant.members

pub loop-k-preserved : goal.loop-k-preserved
loop-k-preserved c =
    let s = c.args.index.now.events in
    let slots = slots_of c.args.threads.now in
    subst (AreSettling s slots c.args.prefix c.args.members.now c.move_one.new.members) (sym c.greater-count.ensures)
    (settling_on s slots c.args.threads.now.count c.args.prefix c.loop-k.count c.in-Some-move_one.number c.args.members.now c.loop-k.members c.move_one.new.members c.in-Some.k
    c.in-Some-move_one.ensures.0 c.requires.slots c.in-Some.ensures.some c.in-Some-move_one.ensures.1 c.loop-k.invariant)
