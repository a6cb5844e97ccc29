use Rattle.std.proofs.Common.{◌≡◌, ℕ, Some, None, map, sym, ap, subst, ◌∙◌, arith}
use Rattle.std.proofs.lemmas.Option.{none-some}
use Rattle.std.specs.Arc.{arc_value}
use Rattle.result_ledger.specs.Tasks.{IsMissing}
use Rattle.result_ledger.specs.Inside.{IsInOrder, current_rows, tasks_of}
use Rattle.result_ledger.proofs.TaskList.{least_missing, none_missing, if_refused, settled_tasks}
use Rattle.result_ledger.proofs.ledger.Ledger.share.Goals as goal

pub returns-then-self-len-clause-shared : goal.returns-then-self-len-clause-shared
returns-then-self-len-clause-shared c =
    let b = c.self.inside in (
      b.missing,
      subst (λ ts. IsMissing ts b.missing) c.self.view_is
          (least_missing b.marks.items (current_rows b.rows.items b.shared) b.delivered b.missing c.self.invariant.order (omega arith)).0,
    )

pub returns-in_err-try_clone-clause-refused : goal.returns-in_err-try_clone-clause-refused
returns-in_err-try_clone-clause-refused c =
    let b = c.self.inside in
    if_refused _ (subst (λ ts. (task : ℕ) → IsMissing ts task → ⊥) c.self.view_is (none_missing b.marks.items (current_rows b.rows.items b.shared) b.delivered b.missing c.self.invariant.order (omega arith)))

pub returns-in-Some-clause-shared : goal.returns-in-Some-clause-shared
returns-in-Some-clause-shared c =
    let b = c.self.inside in
    let order = subst (λ shared. IsInOrder b.marks.items (current_rows b.rows.items shared) b.delivered b.missing) c.in-Some.is c.self.invariant.order in
    sym c.self.view_is
    ∙ (ap (λ shared. tasks_of b.marks.items (current_rows b.rows.items shared)) c.in-Some.is
    ∙ (settled_tasks b.marks.items (arc_value c.in-Some.shared).items b.delivered b.missing order (omega arith)
    ∙ ap (λ rows. map (λ task. Some task.items) rows.items) (sym c.in_ok-try_clone.ensures)))

pub returns-in_err-copy-in-Ok-clause-refused : goal.returns-in_err-copy-in-Ok-clause-refused
returns-in_err-copy-in-Ok-clause-refused c =
    let b = c.self.inside in
    if_refused _ (subst (λ ts. (task : ℕ) → IsMissing ts task → ⊥) c.self.view_is (none_missing b.marks.items (current_rows b.rows.items b.shared) b.delivered b.missing c.self.invariant.order (omega arith)))

pub returns-in_ok-copy-in-Ok-clause-shared : goal.returns-in_ok-copy-in-Ok-clause-shared
returns-in_ok-copy-in-Ok-clause-shared c =
    let b = c.self.inside in
    let order = subst (λ shared. IsInOrder b.marks.items (current_rows b.rows.items shared) b.delivered b.missing) c.in_default.is c.self.invariant.order in
    sym c.self.view_is
    ∙ (ap (λ shared. tasks_of b.marks.items (current_rows b.rows.items shared)) c.in_default.is
    ∙ (settled_tasks b.marks.items b.rows.items b.delivered b.missing order (omega arith)
    ∙ ap (map (λ task. Some task.items)) (sym (ap (λ rows. rows.items) (c.in_ok-copy-in-Ok.ensures ∙ c.in-Ok.ensures.ok) ∙ ap (λ rows. rows.items) c.replace-rows.ensures.value))))

pub returns-in-Err-clause-refused : goal.returns-in-Err-clause-refused
returns-in-Err-clause-refused c =
    let b = c.self.inside in
    subst (λ ts. (task : ℕ) → IsMissing ts task → ⊥) c.self.view_is (none_missing b.marks.items (current_rows b.rows.items b.shared) b.delivered b.missing c.self.invariant.order (omega arith))
