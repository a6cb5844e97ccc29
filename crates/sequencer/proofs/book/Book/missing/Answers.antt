use Rattle.std.proofs.Common.{sym}
use Rattle.sequencer.specs.QuestionState.{question_of}
use Rattle.sequencer.proofs.QuestionAnswers.{least_of_view}
use Rattle.sequencer.proofs.book.Book.missing.Goals as goal

pub returns-clause-ok : goal.returns-clause-ok
returns-clause-ok c =
    (question_of c.in-Some.asked.now, sym c.in-Some.ensures.value, least_of_view c.in-Some.asked.now c.missing.result c.missing.ensures)
