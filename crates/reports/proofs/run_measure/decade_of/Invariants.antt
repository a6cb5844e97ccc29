use Rattle.std.proofs.Common.{◌*◌, ◌-◌, ◌≤◌}
use Rattle.reports.specs.Decades.{IsDecade}
use Rattle.reports.proofs.run_measure.decade_of.Given as goal

abbrev pub invariant-loop-decade : goal.invariant-loop-decade
invariant-loop-decade l = record {
  decade : IsDecade l.decade;
  tens : 10 * l.decade.low ≤ l.decade.high;
  some : 10 ≤ l.decade.high;
  within : l.decade.low ≤ l.number;
  narrow : l.decade.width ≤ l.decade.high;
}

abbrev pub decreases-loop-decade : goal.decreases-loop-decade
decreases-loop-decade l = 42949672960 - l.decade.high
