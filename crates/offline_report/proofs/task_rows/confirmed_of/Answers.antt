use Rattle.std.proofs.Common.{◌≡◌, Bool, true, false, cond, ap, ◌∙◌}
use Rattle.reports.specs.Text.{is_confirmed_row}
use Rattle.offline_report.proofs.task_rows.confirmed_of.Goals as goal

as_byte : (c : goal.After-from) (b : Bool) → c.is_some.result ≡ b → c.from.result ≡ cond b 1 0
as_byte c true e = rw e at c.from.ensures
as_byte c false e = rw e at c.from.ensures

pub returns : goal.returns
returns c = as_byte c (is_confirmed_row c.args.row.now) (c.is_some.ensures ∙ ap is_confirmed_row c.row.view_is)
