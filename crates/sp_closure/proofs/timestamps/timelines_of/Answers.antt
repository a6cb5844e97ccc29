use Rattle.std.proofs.Common.{◌≤◌, sym, subst}
use Rattle.fronts.proofs.BuildLemmas.{length_pushed}
use Rattle.fronts.specs.Slots.{slots_of}
use Rattle.sp_closure.proofs.TimestampLemmas.{fresh_added, fresh_timestamp, timelines_added}
use Rattle.sp_closure.proofs.timestamps.timelines_of.Goals as goal

pub loop-number-preserved : goal.loop-number-preserved
loop-number-preserved c =
    let s = c.args.index.now.events in
    let slots = slots_of c.args.threads.now in
    let was = c.loop-number.invariant in
    let old = c.loop-number.entries.items in
    let new = c.add_wanted.new.entries.items in
    let timelines = c.loop-number.timelines.items in
    let pushed = c.push_reserved.new.self.items in
    let made = c.in_ok-timeline.timeline in
    record {
      count = length_pushed timelines pushed c.loop-number.number made c.push_reserved.ensures.items was.count;
      room = subst (λ z. c.len-number-end.result ≤ z) (sym c.push_reserved.ensures.capacity) was.room;
      each = timelines_added s slots old new timelines pushed c.loop-number.number made was.each c.in_ok-timeline.ensures c.push_reserved.ensures.items was.count;
      fresh = fresh_added s slots old new c.loop-number.number made was.fresh c.in_ok-timeline.ensures;
    }

pub returns : goal.returns
returns c = record {
  each = c.loop-number.invariant.each;
  stamped = λ i x at. fresh_timestamp c.args.index.now.events (slots_of c.args.threads.now) c.args.threads.now.count c.new.result.items x (c.loop-number.invariant.fresh i x at);
}
