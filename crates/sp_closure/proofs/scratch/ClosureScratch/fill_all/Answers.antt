use Rattle.sp_closure.proofs.scratch.ClosureScratch.fill_all.Goals as goal

pub loop-key-init : goal.loop-key-init
loop-key-init g c = c.requires

pub loop-key-preserved : goal.loop-key-preserved
loop-key-preserved g c = c.fill.ensures

pub returns : goal.returns
returns g c = c.loop-key.invariant
