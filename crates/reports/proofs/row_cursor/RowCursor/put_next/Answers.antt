use Rattle.trace_model.specs.declared.limits.TheConstants.{MAX_REPORT}
use Rattle.reports.proofs.Rests.{front_within, part_put, row_put}
use Rattle.reports.proofs.row_cursor.RowCursor.put_next.Goals as goal

pub put_part-requires : goal.put_part-requires
put_part-requires c = front_within c.args.rows.now c.args.self.now.row c.index-rows-self.result MAX_REPORT c.requires.there c.index-rows-self.is c.requires.few
