use Rattle.sp_closure.proofs.TimelineLemmas.{moves_after}
use Rattle.sp_closure.proofs.timelines.Timestamps.moved.Goals as goal

pub returns : goal.returns
returns c =
    moves_after c.args.self.now c.args.by c.args.of c.in-Some.timeline c.in-Some-entry_of.timestamp c.count_of-count.result c.next.result c.in-Some.ensures c.in-Some-entry_of.ensures
    c.count_of-count.ensures c.next.ensures
