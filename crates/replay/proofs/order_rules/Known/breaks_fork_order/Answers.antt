use Rattle.std.proofs.Common.{◌∙◌, sym, subst}
use Rattle.std.proofs.lemmas.Bool.{false≢true}
use Rattle.replay.specs.Tests.{NoForkIn}
use Rattle.replay.proofs.Lists.{one_thread}
use Rattle.replay.proofs.order_rules.Known.breaks_fork_order.Goals as goal

pub returns-then-thread-ne0 : goal.returns-then-thread-ne0
returns-then-thread-ne0 c =
    let s = c.args.self.now.trace.now in
    let q = c.args.place in
    let e = c.event-thread.result in (
      λ h. (e.thread, (e.op, c.event-thread.ensures), (λ z. absurd (c.if-thread-ne0.true z)), c.misses_fork.ensures.0 h),
      λ (u, o, z, n). c.misses_fork.ensures.1 (subst (NoForkIn s c.args.self.now.passed.now) (sym (one_thread s q e u c.event-thread.ensures o)) n),
    )

pub returns-else-thread-ne0 : goal.returns-else-thread-ne0
returns-else-thread-ne0 c =
    let s = c.args.self.now.trace.now in
    let q = c.args.place in
    (λ h. let k = h in absurd (false≢true (rw c.if-thread-ne0.false at k)), λ (u, o, z, n). absurd (z (sym (one_thread s q c.event-thread.result u c.event-thread.ensures o) ∙ c.if-thread-ne0.false)))
