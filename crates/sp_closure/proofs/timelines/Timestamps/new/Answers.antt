use Rattle.sp_closure.proofs.timelines.Timestamps.new.Goals as goal

pub timestamps-requires-clause-scratch : goal.timestamps-requires-clause-scratch
timestamps-requires-clause-scratch g c = c.in_ok-scratch.ensures.scratch c.args.index.now.events c.requires.requirements
