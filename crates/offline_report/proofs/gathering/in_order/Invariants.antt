use Rattle.std.proofs.Common.{◌≡◌, length}
use Rattle.offline_report.specs.Gathering.{AreResults, HoldGiven}
use Rattle.offline_report.proofs.gathering.in_order.Given as goal

abbrev pub invariant-loop-task : goal.invariant-loop-task
invariant-loop-task g l = record {
  each : length l.slots ≡ l.tasks;
  held : HoldGiven g.C.Computes.may_give l.slots;
  listed : length l.all.items ≡ l.task;
  results : AreResults g.C.Computes.may_give l.all.items;
}
