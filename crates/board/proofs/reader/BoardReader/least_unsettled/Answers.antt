use Rattle.std.proofs.Common.{◌≡◌, List, ap, sym, subst, ◌∙◌}
use Rattle.left_right.specs.Sides.{view}
use Rattle.board.specs.declared.summary.QuestionSummary.{QuestionSummary}
use Rattle.board.specs.Unsettled.{IsLeastUnsettled, open_questions}
use Rattle.board.proofs.Searching.{shows_open}
use Rattle.board.proofs.reader.BoardReader.least_unsettled.Goals as goal

pub returns-clause-found : goal.returns-clause-found
returns-clause-found g c =
    let run = c.get.result.now in
    let seen : view c.leave.result.place ≡ run = c.leave.ensures.1 ∙ (c.in_ok-reading.ensures.seen ∙ sym c.get.ensures) in
    let open_here = shows_open c.totals.result.now run c.totals.ensures ∙ ap open_questions (sym seen) in
    subst (λ (questions : List QuestionSummary). IsLeastUnsettled c.args.passed_over.now questions c.least_unsettled-found.result) open_here c.least_unsettled-found.ensures
