use Rattle.std.proofs.Common.{count_by, is_some, sym, ap, ◌∙◌, map}
use Rattle.result_ledger.proofs.TaskList.{counted}
use Rattle.result_ledger.specs.Inside.{current_rows}
use Rattle.result_ledger.proofs.ledger.Ledger.delivered.Goals as goal

pub returns : goal.returns
returns c = c.self.invariant.order.counted ∙ sym (counted c.self.inside.marks.items (current_rows c.self.inside.rows.items c.self.inside.shared) c.self.invariant.order.long) ∙ ap (count_by is_some) c.self.view_is
