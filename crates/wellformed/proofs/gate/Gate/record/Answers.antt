use Rattle.std.proofs.Common.{arith}
use Rattle.trace_model.proofs.Lists.{length-push}
use Rattle.trace_model.proofs.Theory.OneMore.{lawful_higher, lawful_room}
use Rattle.wellformed.proofs.gate.Gate.record.Goals as goal

pub record-requires-clause-lawful : goal.record-requires-clause-lawful
record-requires-clause-lawful c =
    let i = c.self.invariant in
    let s = c.self.inside.events.items in
    (s, i.follow, lawful_higher c.self.inside.limit _ s c.args.event.now i.small (rw (← c.self.view_is) at c.requires.lawful))

pub invariant_of-self : goal.invariant_of-self
invariant_of-self c =
    let lawful = rw (← c.self.view_is) at c.requires.lawful in
    let i = c.self.invariant in
    let s = c.self.inside.events.items in
    let room = lawful_room c.self.inside.limit s c.args.event.now lawful in
    let more = length-push s c.args.event.now in
    rw c.push_reserved.ensures.items (record {
      within = omega (arith, room, more);
      small = i.small;
      follow = c.record.ensures s i.follow (lawful_higher c.self.inside.limit _ s c.args.event.now i.small lawful);
      entries = λ e h. absurd (cc h);
      room = λ e h. absurd (cc h);
    })
