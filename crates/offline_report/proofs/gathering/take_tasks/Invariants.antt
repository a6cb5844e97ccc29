use Rattle.offline_report.specs.Gathering.{AreGiven}
use Rattle.offline_report.proofs.gathering.take_tasks.Given as goal

abbrev pub invariant-loop-task : goal.invariant-loop-task
invariant-loop-task g l = AreGiven g.C.Computes.may_give l.tasks l.done

abbrev pub invariant-loop-turn : goal.invariant-loop-turn
invariant-loop-turn g l = AreGiven g.C.Computes.may_give l.tasks l.done
