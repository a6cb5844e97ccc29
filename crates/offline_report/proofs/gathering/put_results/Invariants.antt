use Rattle.std.proofs.Common.{◌≡◌, ◌++◌, length}
use Rattle.offline_report.specs.Gathering.{HoldGiven}
use Rattle.offline_report.proofs.gathering.put_results.Given as goal

abbrev pub invariant-loop-one : goal.invariant-loop-one
invariant-loop-one g l = record {
  each : length l.slots.items ≡ length l.initial.slots.items;
  held : HoldGiven g.C.Computes.may_give l.slots.items;
  rest : l.yielded ++ l.one-iterator.rest.items ≡ l.fn.done.items;
}
