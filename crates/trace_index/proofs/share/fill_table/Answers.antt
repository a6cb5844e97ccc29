use Rattle.std.proofs.Common.{w32, arith}
use Rattle.std.proofs.Math.Facts.{Fits-below}
use Rattle.trace_index.proofs.OneFurther.{rows_short}
use Rattle.trace_index.proofs.Sharing.{begun_next}
use Rattle.trace_index.proofs.share.fill_table.Goals as goal

pub overflow_cast-index : goal.overflow_cast-index
overflow_cast-index c =
    let s = rows_short c.args.rows.now.0 c.requires.well_formed in
    let t = c.loop-index-test.true in
    let n = c.requires.len in
    Fits-below {w = w32} {m = c.loop-index.index} {n = 1048576} tt (omega arith)

pub loop-index-preserved : goal.loop-index-preserved
loop-index-preserved c = record {
  tables = begun_next c.args.rows.now.0 c.requires.well_formed c.requires.rows c.requires.depths c.args.from c.loop-index.index c.new.result c.in-Some.row c.loop-index.tail c.reserve.new.self c.record.new.self
      c.loop-index.auto.index c.in-Some.ensures c.new.ensures c.loop-index.invariant.tables c.in_ok-reserve.ensures.same (record { last = c.record.ensures.last; releases = c.record.ensures.releases });
  room = c.record.ensures.ahead;
}

pub record-requires-clause-small : goal.record-requires-clause-small
record-requires-clause-small c =
    let s = rows_short c.args.rows.now.0 c.requires.well_formed in
    let t = c.loop-index-test.true in
    let n = c.requires.len in
    let at = c.new.ensures in
    omega arith

pub reserve-requires : goal.reserve-requires
reserve-requires c = c.loop-index.invariant.room
