use Rattle.std.proofs.Common.{◌+◌, ◌-◌, ◌<◌, ◌≤◌, length}
use Rattle.fronts.specs.Members.{ArePassed}
use Rattle.fronts.proofs.members.Member.first_past.Given as goal

abbrev pub invariant-loop-step : goal.invariant-loop-step
invariant-loop-step l = record {
  after : l.self.entry ≤ l.low;
  inside : l.low < length l.self.places;
  some : 0 < l.step;
  passed : ArePassed l.index.events l.count l.self.places l.self.entry (l.low + 1);
}

abbrev pub decreases-loop-step : goal.decreases-loop-step
decreases-loop-step l = length l.self.places - l.low

abbrev pub invariant-loop-high : goal.invariant-loop-high
invariant-loop-high l = record {
  after : l.self.entry ≤ l.low;
  order : l.low < l.high;
  within : l.high ≤ length l.self.places;
  passed : ArePassed l.index.events l.count l.self.places l.self.entry (l.low + 1);
}

abbrev pub decreases-loop-high : goal.decreases-loop-high
decreases-loop-high l = l.high - l.low
