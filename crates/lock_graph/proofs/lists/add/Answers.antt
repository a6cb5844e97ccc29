use Rattle.std.proofs.Common.{◌∙◌}
use Rattle.lock_graph.specs.Lists.{lock_numbers}
use Rattle.lock_graph.proofs.ListSteps.{listed_more}
use Rattle.lock_graph.proofs.lists.add.Goals as goal

pub returns-in-Err-clause-err : goal.returns-in-Err-clause-err
returns-in-Err-clause-err c = c.take_back.ensures c.args.number (lock_numbers c.args.lists.now) (λ other. c.in-Err.ensures.err other ∙ c.loop-index.invariant other)

pub loop-index-preserved : goal.loop-index-preserved
loop-index-preserved c = λ other. listed_more c.args.locks.now c.loop-index.index c.args.number other _ _ _ c.requires c.loop-index-test.true (c.loop-index.invariant other) (c.in_default.ensures.ok other)
