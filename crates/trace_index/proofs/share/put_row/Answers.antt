use Rattle.std.proofs.Common.{arith}
use Rattle.trace_index.proofs.share.put_row.Goals as goal

pub returns-clause-rows : goal.returns-clause-rows
returns-clause-rows g c = c.put.ensures

pub returns-clause-copies : goal.returns-clause-copies
returns-clause-copies g c = omega arith
