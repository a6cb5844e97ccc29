use Rattle.std.proofs.Common.{◌≡◌, length}
use Rattle.offline_report.specs.Gathering.{HoldGiven}
use Rattle.offline_report.proofs.gathering.no_results.Given as goal

abbrev pub invariant-loop-task : goal.invariant-loop-task
invariant-loop-task g l = record {
  each : length l.slots.items ≡ l._task;
  held : HoldGiven g.C.Computes.may_give l.slots.items;
}
