use Rattle.findings.proofs.tables.make_timestamps.Goals as goal

pub new-requires-clause-one_trace : goal.new-requires-clause-one_trace
new-requires-clause-one_trace g c = rw c.index.ensures c.table.ensures
