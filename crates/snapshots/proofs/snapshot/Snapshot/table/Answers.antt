use Rattle.snapshots.proofs.snapshot.Snapshot.table.Goals as goal

pub returns : goal.returns
returns c = rw (← c.self.view_is) c.self.invariant.dependencies
