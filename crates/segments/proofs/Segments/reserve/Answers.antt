use Rattle.std.proofs.lemmas.Result.{IfOk-from_err}
use Rattle.std.proofs.Common.{ap, ◌∙◌}
use Rattle.segments.proofs.Segments.reserve.Goals as goal

pub returns-in_err-seal-clause-ok : goal.returns-in_err-seal-clause-ok
returns-in_err-seal-clause-ok g c = IfOk-from_err c.from_residual.result _ c.from_residual.ensures.0

pub returns-in_err-reserve-clause-ok : goal.returns-in_err-reserve-clause-ok
returns-in_err-reserve-clause-ok g c = IfOk-from_err c.from_residual-in_err-reserve.result _ c.from_residual-in_err-reserve.ensures.0

pub returns-in_err-seal-clause-shown : goal.returns-in_err-seal-clause-shown
returns-in_err-seal-clause-shown g c = c.seal.ensures.same ∙ ap (λ v. v.0) c.self.view_is
