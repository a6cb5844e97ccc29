use Rattle.std.proofs.Common.{List, inr, sym, subst, ◌∙◌}
use Rattle.trace_model.specs.declared.messages.step.BoardStep.{BoardStep}
use Rattle.board.specs.Fits.{ReaderView}
use Rattle.board.specs.Totals.{Shows}
use Rattle.desk.specs.Clients.{IsStatus}
use Rattle.desk.proofs.Responses.{response_status}
use Rattle.desk.proofs.client.Client.status.Goals as goal
use Rattle.desk.proofs.client.Client.status.Goals.{in-Ok, in-Err}

pub returns-clause-shown : goal.returns-clause-shown
returns-clause-shown g c =
    let reader = c.self.inside.reader in
    let shown : IsStatus reader c.args.question c.match-status.result c.status.new.self =
    elim c.match-status.branch [
      | in-Ok w ↦
          response_status w.in-Ok.summary c.args.question c.match-status.result reader c.status.new.self w.in-Ok.ensures.later w.in-Ok.ensures.entered w.in-Ok.ensures.legal
          (subst (λ (run : List BoardStep). Shows w.in-Ok.summary run) (sym w.in-Ok.ensures.all) w.in-Ok.ensures.summary) (λ counts s. w.result-is ∙ w.status_in.ensures.shown counts s)
      | in-Err w ↦ inr (w.result-is, _, w.in-Err.ensures.busy)
    ] in
    subst (λ (old : ReaderView). IsStatus old c.args.question c.match-status.result c.status.new.self) c.self.view_is shown
