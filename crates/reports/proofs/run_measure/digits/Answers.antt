use Rattle.std.proofs.Common.{arith}
use Rattle.reports.proofs.Digits.{digits_short, digits_step, digits_one}
use Rattle.reports.proofs.run_measure.digits.Goals as goal

pub overflow_add-count : goal.overflow_add-count
overflow_add-count c = omega (arith, digits_short c.args.number c.ranges.number.fits)

pub loop-rest-preserved : goal.loop-rest-preserved
loop-rest-preserved c = omega (arith, digits_step c.loop-rest.rest c.loop-rest-test.true (omega arith))

pub returns-clause-value : goal.returns-clause-value
returns-clause-value c = omega (arith, digits_one c.loop-rest.rest c.loop-rest-test.false)

pub returns-clause-short : goal.returns-clause-short
returns-clause-short c = omega (arith, digits_one c.loop-rest.rest c.loop-rest-test.false, digits_short c.args.number c.ranges.number.fits)
