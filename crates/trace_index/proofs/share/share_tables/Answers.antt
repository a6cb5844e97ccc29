use Rattle.std.proofs.Common.{◌*◌, take, ap, ◌∙◌, arith}
use Rattle.std.proofs.lemmas.Result.{IfOk-from_err}
use Rattle.trace_index.specs.Links.{trace_of}
use Rattle.trace_index.specs.SegmentTables.{tables_of}
use Rattle.trace_index.proofs.Sharing.{no_tables, shared_tables}
use Rattle.trace_index.proofs.share.share_tables.Goals as goal

pub returns : goal.returns
returns c = record {
  tables = shared_tables (trace_of c.args.rows.now.0) c.args.len c.min-whole.result c.args.tables.now.sealed.items c.in_ok-sealed.sealed.items c.args.tables.now.tail c.fill_table.new.tail
      c.requires.tables (omega (arith, c.min-whole.ensures, c.len.ensures, c.args.tables.now.sealed.ok))
      (c.in_ok-sealed.ensures ∙ ap (λ xs. tables_of (take c.min-whole.result xs)) c.deref.ensures.value) c.in_ok-fill_table.ensures.ok;
  room = c.in_ok-fill_table.ensures.room;
}

pub returns-in_err-sealed : goal.returns-in_err-sealed
returns-in_err-sealed c = record {
  tables = IfOk-from_err c.from_residual.result _ c.from_residual.ensures.0;
  room = IfOk-from_err c.from_residual.result _ c.from_residual.ensures.0;
}

pub returns-in_err-fill_table : goal.returns-in_err-fill_table
returns-in_err-fill_table c = record {
  tables = IfOk-from_err c.from_residual-in_err-fill_table.result _ c.from_residual-in_err-fill_table.ensures.0;
  room = IfOk-from_err c.from_residual-in_err-fill_table.result _ c.from_residual-in_err-fill_table.ensures.0;
}

pub fill_table-requires-clause-begun : goal.fill_table-requires-clause-begun
fill_table-requires-clause-begun c =
    no_tables (trace_of c.args.rows.now.0) (c.min-whole.result * 4096) c.new-tail.result c.new-tail.ensures.last c.new-tail.ensures.releases
