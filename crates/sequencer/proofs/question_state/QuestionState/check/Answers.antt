use Rattle.std.proofs.Common.{slice_get, None, Some, sym, ap, subst, ◌∙◌}
use Rattle.result_ledger.specs.Tasks.{IsLedgerRefusal}
use Rattle.trace_model.specs.Protocol.Machine.{task_refused}
use Rattle.sequencer.specs.QuestionState.{QuestionView}
use Rattle.sequencer.proofs.Counted.{row_at}
use Rattle.sequencer.proofs.question_state.QuestionState.check.Goals as goal

pub returns-in-Ok : goal.returns-in-Ok
returns-in-Ok c =
    let shown = ap (λ (t : QuestionView). slice_get t.tasks c.args.task) c.self.view_is in
    sym (ap task_refused (row_at c.args.self.now.tasks c.args.task (Some None) (sym shown ∙ c.in-Ok.ensures)))

pub returns-in-Err-NoSuchTask : goal.returns-in-Err-NoSuchTask
returns-in-Err-NoSuchTask c =
    let shown = ap (λ (t : QuestionView). slice_get t.tasks c.args.task) c.self.view_is in
    let none = subst (IsLedgerRefusal c.self.inside.ledger c.args.task) c.in-Err-NoSuchTask.field-0-is c.in-Err-NoSuchTask.ensures in
    sym (ap task_refused (row_at c.args.self.now.tasks c.args.task None (sym shown ∙ none)))

pub returns-in-Err-Double : goal.returns-in-Err-Double
returns-in-Err-Double c =
    let shown = ap (λ (t : QuestionView). slice_get t.tasks c.args.task) c.self.view_is in
    let question_view = subst (IsLedgerRefusal c.self.inside.ledger c.args.task) c.in-Err-Double.field-0-is c.in-Err-Double.ensures in
    sym (ap task_refused (row_at c.args.self.now.tasks c.args.task (Some (Some question_view.0)) (sym shown ∙ question_view.1)))
