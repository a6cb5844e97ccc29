use Rattle.std.proofs.Common.{◌≡◌, ◌==◌, false, not, slice_get, ap, ◌∙◌}
use Rattle.trace_model.specs.Protocol.Machine.{task_refused}
use Rattle.sequencer.specs.QuestionState.{question_of}
use Rattle.sequencer.proofs.QuestionAnswers.{known_test}
use Rattle.sequencer.proofs.book.Book.admits_known.Goals as goal

pub returns : goal.returns
returns c =
    let f = c.args.finding.now in
    let q = question_of c.in-Some.asked.now in
    let found = c.in-Some.ensures.value ∙ ap (slice_get c.args.self.now.state.questions) c.question.ensures in
    let bound : false ≡ not (f.bound == q.bound) = c.if-ne.ensures ∙ (λ i. not (c.bound.ensures i == c.bound-2.ensures i)) in
    c.check.ensures ∙ (ap (λ task. task_refused (slice_get q.tasks task)) c.task.ensures ∙ known_test c.args.self.now.state f q found bound c.requires.known)
