use Rattle.std.proofs.Common.{◌≡◌, ◌++◌, length}
use Rattle.offline_report.specs.Gathering.{HoldGiven}
use Rattle.offline_report.proofs.gathering.gather.Given as goal

abbrev pub invariant-loop-taken : goal.invariant-loop-taken
invariant-loop-taken g l = record {
  each : length l.slots.items ≡ l.tasks;
  held : HoldGiven g.C.Computes.may_give l.slots.items;
  rest : l.yielded ++ l.taken-iterator.rest.items ≡ l.initial.taken-iterator.rest.items;
}
