use Rattle.std.proofs.Common.{◌≡◌, ◌<◌, Some, None, map, sym, ap, subst, ◌∙◌, arith}
use Rattle.std.specs.Arc.{arc_value}
use Rattle.result_ledger.specs.Tasks.{IsMissing}
use Rattle.result_ledger.proofs.TaskList.{least_missing, settled_tasks}
use Rattle.result_ledger.specs.Inside.{IsInOrder, current_rows, tasks_of}
use Rattle.result_ledger.proofs.ledger.Ledger.settled.Goals as goal

pub returns-then-self-len : goal.returns-then-self-len
returns-then-self-len c = (
  c.self.inside.missing,
  subst (λ ts. IsMissing ts c.self.inside.missing) c.self.view_is
      (least_missing c.self.inside.marks.items (current_rows c.self.inside.rows.items c.self.inside.shared) c.self.inside.delivered c.self.inside.missing c.self.invariant.order (omega (arith, c.self.invariant.order.within))).0,
)

pub returns-in-Some : goal.returns-in-Some
returns-in-Some c =
    let b = c.self.inside in
    let order = subst (λ shared. IsInOrder b.marks.items (current_rows b.rows.items shared) b.delivered b.missing) c.in-Some.is c.self.invariant.order in
    sym c.self.view_is
    ∙ (ap (λ shared. tasks_of b.marks.items (current_rows b.rows.items shared)) c.in-Some.is
    ∙ (settled_tasks b.marks.items (arc_value c.in-Some.shared).items b.delivered b.missing order (omega arith)
    ∙ ap (map (λ task. Some task.items)) (sym (c.as_slice.ensures.value ∙ ap (λ rows. rows.items) c.deref.ensures))))

pub returns-in-None : goal.returns-in-None
returns-in-None c =
    let b = c.self.inside in
    let order = subst (λ shared. IsInOrder b.marks.items (current_rows b.rows.items shared) b.delivered b.missing) c.in-None.is c.self.invariant.order in
    sym c.self.view_is
    ∙ (ap (λ shared. tasks_of b.marks.items (current_rows b.rows.items shared)) c.in-None.is
    ∙ (settled_tasks b.marks.items b.rows.items b.delivered b.missing order (omega arith)
    ∙ ap (map (λ task. Some task.items)) (sym c.as_slice-in-None.ensures.value)))
