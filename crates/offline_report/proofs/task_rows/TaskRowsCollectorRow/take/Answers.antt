use Rattle.std.proofs.Common.{◌∷◌, ◌++◌, ◌∙◌, [], ap, arith, rules}
use Rattle.trace_model.specs.Theory.Rows.{Row}
use Rattle.offline_report.proofs.RowsMore.{has_more}
use Rattle.offline_report.proofs.task_rows.TaskRowsCollectorRow.take.Goals as goal

pub returns-in-Ok-part : goal.returns-in-Ok-part
returns-in-Ok-part c start before taken = (
  omega (arith, taken.0, c.if-not-is_over.ensures),
  c.in-Ok-part.ensures.is_whole,
  λ empty. c.in-Ok-part.ensures.rows (before ++ c.args.row ∷ []) (has_more before c.args.row c.args.self.now.rows.items c.add_row.new.rows.items c.args.self.now.bytes
      c.saturating_add-self.result c.row_size-size.result c.args.self.now.confirmed c.saturating_add-self-2.result c.confirmed_of-certain.result (taken.1 empty)
      (c.in-Ok-add_row.ensures ∙ ap (λ (r : Row). c.args.self.now.rows.items ++ r ∷ []) c.in-Ok.ensures) (search rules) (search rules) (search rules) (search rules) (search rules)),
)
