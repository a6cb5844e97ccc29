use Rattle.sp_closure.specs.Filling.{IsFilling}
use Rattle.sp_closure.proofs.scratch.ClosureScratch.fill_all.Given as goal

abbrev pub invariant-loop-key : goal.invariant-loop-key
invariant-loop-key g l = IsFilling l.fn.index.events l.fn.requirements l.self l.timestamps
