use Rattle.std.proofs.Common.{arith, ◌-◌}
use Rattle.lock_graph.specs.Lists.{lock_numbers}
use Rattle.lock_graph.proofs.ListSteps.{listed_less}
use Rattle.lock_graph.proofs.lists.take_back.Goals as goal

pub loop-rest-preserved : goal.loop-rest-preserved
loop-rest-preserved c =
    let l = c.loop-rest in
    record {
      within = omega arith;
      listed = λ number before with_all. listed_less c.args.locks.now (l.rest - 1) l.rest number before (lock_numbers l.lists) (lock_numbers c.take_one.new.lists) c.requires.ascends (omega arith) (omega arith)
          (l.invariant.listed number before with_all) c.take_one.ensures.last c.take_one.ensures.others;
    }
