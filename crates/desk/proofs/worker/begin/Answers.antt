use Rattle.std.proofs.Common.{◌≡◌, ℕ, Err, ap, subst, ◌∙◌}
use Rattle.desk.specs.declared.worker.Turn.{Turn}
use Rattle.desk.specs.declared.worker.Turn.TheVariants.{Refused}
use Rattle.desk.specs.Turns.{IsRefusedTurn}
use Rattle.desk.proofs.worker.begin.Goals as goal

pub returns-in-Err-clause-refused : goal.returns-in-Err-clause-refused
returns-in-Err-clause-refused g c refusal e =
    let is : c.in-Err.turn ≡ Refused refusal = cc in
    subst (λ (n : ℕ). IsRefusedTurn g.N.HistoryId.limit n refusal) c.from.ensures
    (c.job_of.ensures.refused refusal (c.in-Err.is ∙ ap (λ (t : Turn). Err t) is))
