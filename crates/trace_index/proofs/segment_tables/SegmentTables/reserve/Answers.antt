use Rattle.trace_index.proofs.SegmentTables.{same_marks}
use Rattle.trace_index.proofs.segment_tables.SegmentTables.reserve.Goals as goal

pub returns-in_err-reserve-clause-same : goal.returns-in_err-reserve-clause-same
returns-in_err-reserve-clause-same c = λ s are. same_marks s c.args.len _ _ _ c.in_err-reserve.ensures.same (c.in_ok-seal.ensures.same s are)

pub returns-clause-same : goal.returns-clause-same
returns-clause-same c = λ s are. same_marks s c.args.len _ _ _ c.in_ok-reserve.ensures.same (c.in_ok-seal.ensures.same s are)
