use Rattle.std.proofs.Common.{sym, subst}
use Rattle.lock_tables.specs.Tables.{FollowTrace}
use Rattle.snapshots.proofs.snapshot_builder.SnapshotBuilder.extended.Goals as goal

pub invariant_of-result : goal.invariant_of-result
invariant_of-result g c =
    let tables = rw c.in-Ok-Ok.is-0 at c.join-tables.ensures.first in
    let index = rw c.in-Ok-Ok.is-1 at c.join-tables.ensures.second in
    subst (FollowTrace c.in-Ok-Ok.tables) (sym index) (tables c.self.inside.index.events c.self.invariant)
