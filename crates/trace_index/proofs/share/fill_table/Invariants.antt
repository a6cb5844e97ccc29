use Rattle.trace_index.specs.Links.{trace_of}
use Rattle.trace_index.specs.SegmentTables.{AreTablesFrom, HasRoomAhead}
use Rattle.trace_index.proofs.share.fill_table.Given as goal

abbrev pub invariant-loop-index : goal.invariant-loop-index
invariant-loop-index l = record {
  tables : AreTablesFrom (trace_of l.rows.0) l.from l.index l.tail;
  room : HasRoomAhead l.tail;
}
