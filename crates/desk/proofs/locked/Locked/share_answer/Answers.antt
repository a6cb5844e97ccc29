use Rattle.std.proofs.Common.{List, ap, ◌∙◌, rules}
use Rattle.trace_model.specs.declared.messages.step.BoardStep.{BoardStep}
use Rattle.sequencer.specs.Book.{BookView}
use Rattle.desk.specs.Published.{DeskView}
use Rattle.desk.proofs.Steps.{after_shown, legal_kept}
use Rattle.desk.proofs.locked.Locked.share_answer.Goals as goal

-- The view with this book.
view_with : List BoardStep → BookView → DeskView
view_with published book = record { published = published; state = book.state }

pub returns : goal.returns
unfolding view_with
returns g c =
    let limit = g.N.HistoryId.limit in
    let b = c.self.inside.board in
    let k = c.self.invariant in
    record {
      before = after_shown limit _ _ c.self.view_is k.after;
      shared = search rules;
      refused = search rules;
      same = ap (view_with b.published) c.share_answer.ensures.same ∙ c.self.view_is;
      receipt = c.receipt.ensures;
      legal = legal_kept limit b.published b.waiting c.self.inside.book.state k;
    }
