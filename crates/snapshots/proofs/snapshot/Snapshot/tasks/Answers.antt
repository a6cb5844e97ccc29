use Rattle.std.proofs.Common.{length, ap, arith}
use Rattle.trace_model.proofs.Protocol.Bounds.{dependencies_few}
use Rattle.snapshots.proofs.snapshot.Snapshot.tasks.Goals as goal

pub overflow_cast-result : goal.overflow_cast-result
overflow_cast-result c =
    let s = c.self.inside.index.events in
    omega (arith, c.len.ensures.value, ap length c.self.invariant.dependencies.0, dependencies_few s (length s), c.len-events.ensures.short)
