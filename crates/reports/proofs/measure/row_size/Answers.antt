use Rattle.std.proofs.Common.{[], arith}
use Rattle.reports.proofs.measure.row_size.Goals as goal

pub returns-in-Ok : goal.returns-in-Ok
returns-in-Ok c = let h = c.in-Ok.ensures [] c.new-counter.ensures in omega (arith, h)

pub returns-in-Err : goal.returns-in-Err
returns-in-Err c = let h = c.in-Err.ensures [] c.new-counter.ensures in omega (arith, h)
