use Rattle.std.proofs.Common.{arith}
use Rattle.replay.proofs.RefutationVerdicts.{end_more}
use Rattle.replay.proofs.refuting.end_verdict.Goals as goal

pub returns-else-count-steps : goal.returns-else-count-steps
returns-else-count-steps c = end_more c.args.steps.now c.args.count c.args.count (let l = c.requires in let n = c.if-count-steps.false in omega arith)
