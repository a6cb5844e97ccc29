use Rattle.trace_model.specs.declared.traces.event.Op.TheVariants.{Join}
use Rattle.replay.specs.Tests.{MissesThread}
use Rattle.replay.proofs.Lists.{op_decided, op_undone}
use Rattle.replay.proofs.order_rules.Known.breaks_join_order.Goals as goal

pub returns-in-Join : goal.returns-in-Join
returns-in-Join c =
    let k = c.args.self.now in
    let q = c.args.place in
    op_decided (λ x. MissesThread k.trace.now k.passed.now x) Join (λ x y e. cc) k.trace.now q c.event.result c.misses_thread.result c.in-Join.thread c.event.ensures c.in-Join.is c.misses_thread.ensures

pub returns-in_default : goal.returns-in_default
returns-in_default c =
    let k = c.args.self.now in
    let q = c.args.place in
    op_undone (λ x. MissesThread k.trace.now k.passed.now x) Join k.trace.now q c.event.result c.event.ensures c.in_default.not-Join
