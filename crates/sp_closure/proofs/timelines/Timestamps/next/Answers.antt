use Rattle.std.proofs.Common.{arith}
use Rattle.sp_closure.proofs.TimelineLemmas.{next_after}
use Rattle.sp_closure.proofs.timelines.Timestamps.next.Goals as goal

pub loop-next-init : goal.loop-next-init
loop-next-init c = λ k x at le above. le

pub loop-next-preserved : goal.loop-next-preserved
loop-next-preserved c = λ k x at le above.
    next_after c.args.self.now.entries.items c.args.timeline c.loop-next.next k c.args.count c.in-Some.timestamp x c.in-Some.ensures at (c.loop-next.invariant k x at le above) (omega arith) above
