use Rattle.std.proofs.Common.{sym, subst, ◌∙◌}
use Rattle.std.proofs.lemmas.Result.{IfOk-from_err, err_from_is_err_and}
use Rattle.trace_model.specs.Protocol.Machine.{ask_refused}
use Rattle.sequencer.specs.Book.{RefusesAsk}
use Rattle.sequencer.proofs.book.Book.ask.Goals as goal

pub returns-in_err-asked : goal.returns-in_err-asked
returns-in_err-asked c =
    let question_view = err_from_is_err_and c.from_residual.result c.from_residual.ensures.1 in
    let refused = subst (RefusesAsk c.args.self.now.state c.args.bound) (sym question_view.2) c.in_err-asked.ensures.refused in
    record {
      ok = IfOk-from_err c.from_residual.result _ c.from_residual.ensures.0;
      refused = rw question_view.1 (refused, c.in_err-asked.ensures.shown);
    }

pub preview-opened-requires : goal.preview-opened-requires
preview-opened-requires c = record {
  allowed = (λ i. ask_refused (c.in_ok-asked.ensures.shown i) (c.in_ok-asked.ensures.ok.0 i)) ∙ c.in_ok-asked.ensures.allowed;
  fresh = c.in_ok-asked.ensures.ok.1.1;
}

pub record_question-requires : goal.record_question-requires
record_question-requires c = record {
  room = c.in_ok-asked.ensures.ok.1.0;
  allowed = (λ i. ask_refused (c.in_ok-asked.ensures.shown i) (c.in_ok-asked.ensures.ok.0 i)) ∙ c.in_ok-asked.ensures.allowed;
  fresh = c.in_ok-asked.ensures.ok.1.1;
}
