use Rattle.std.proofs.Common.{◌≡◌, List, Some, None, true, false, map, slice_get, sym, ap, subst, ◌∙◌}
use Rattle.reports.specs.Printed.{PrintedRow}
use Rattle.result_ledger.specs.Tasks.{IsMissing}
use Rattle.result_ledger.proofs.TaskList.{task_of_mark, beyond}
use Rattle.result_ledger.specs.Inside.{current_rows}
use Rattle.result_ledger.proofs.ledger.Ledger.test.Goals as goal

pub returns-in-None : goal.returns-in-None
returns-in-None c = subst (λ ts. slice_get ts c.args.task ≡ None) c.self.view_is (beyond c.self.inside.marks.items (current_rows c.self.inside.rows.items c.self.inside.shared) c.args.task (ap (λ marks. slice_get marks c.args.task) (sym c.as_slice.ensures.value) ∙ sym c.in-None.ensures))

pub returns-in-Some-true : goal.returns-in-Some-true
returns-in-Some-true c = subst (λ ts. (rows : List PrintedRow) × (slice_get ts c.args.task ≡ Some (Some rows))) c.self.view_is (task_of_mark c.self.inside.marks.items (current_rows c.self.inside.rows.items c.self.inside.shared) c.args.task true c.self.invariant.order.long (ap (λ marks. slice_get marks c.args.task) (sym c.as_slice.ensures.value) ∙ sym c.in-Some-true.ensures ∙ ap Some c.in-Some-true.field-0-test))

pub returns-in-Some-false : goal.returns-in-Some-false
returns-in-Some-false c = subst (λ ts. IsMissing ts c.args.task) c.self.view_is (task_of_mark c.self.inside.marks.items (current_rows c.self.inside.rows.items c.self.inside.shared) c.args.task false c.self.invariant.order.long (ap (λ marks. slice_get marks c.args.task) (sym c.as_slice.ensures.value) ∙ sym c.in-Some-false.ensures ∙ ap Some c.in-Some-false.field-0-test)).1
