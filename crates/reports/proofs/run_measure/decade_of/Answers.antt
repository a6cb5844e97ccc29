use Rattle.std.proofs.Common.{arith}
use Rattle.reports.proofs.Digits.{decade_first, decade_next}
use Rattle.reports.proofs.run_measure.decade_of.Goals as goal

pub loop-decade-init : goal.loop-decade-init
loop-decade-init c = record {
  decade = decade_first;
  tens = omega arith;
  some = omega arith;
  within = omega arith;
  narrow = omega arith;
}

pub loop-decade-preserved : goal.loop-decade-preserved
loop-decade-preserved c =
    let was = c.loop-decade.decade in
    let now = c.loop-decade.invariant in
    record {
      decade = decade_next was.low was.high was.width now.tens now.some (omega (arith, c.loop-decade-test.true, c.from-number.ensures, c.ranges.number.fits)) now.decade;
      tens = omega arith;
      some = omega (arith, now.some);
      within = c.loop-decade-test.true;
      narrow = omega (arith, now.narrow, now.some);
    }
