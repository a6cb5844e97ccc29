use Rattle.std.proofs.Common.{ap, subst, sym}
use Rattle.std.proofs.lemmas.Result.{IfOk-from_err}
use Rattle.result_ledger.specs.Tasks.{Tasks}
use Rattle.sequencer.specs.QuestionState.{HasRightCounters, QuestionView}
use Rattle.sequencer.proofs.Counted.{opened_counts}
use Rattle.sequencer.proofs.question_state.QuestionState.new.Goals as goal

pub invariant_of-result : goal.invariant_of-result
invariant_of-result c =
    subst (λ (tasks : Tasks). HasRightCounters (record { length = c.args.length; bound = c.args.bound; tasks = tasks }) c.args.total 0 0) (sym c.in_ok-ledger.ensures)
    (opened_counts c.args.length c.args.bound c.args.total)

pub returns-in_err-ledger : goal.returns-in_err-ledger
returns-in_err-ledger c = IfOk-from_err c.from_residual.result _ c.from_residual.ensures.0

pub returns : goal.returns
returns c = ap {B = QuestionView} (λ (tasks : Tasks). record { length = c.args.length; bound = c.args.bound; tasks = tasks }) c.in_ok-ledger.ensures
