use Rattle.std.proofs.lemmas.Result.{IfOk-from_err}
use Rattle.segments.proofs.Segments.share.Goals as goal

pub returns-in_err-sealed : goal.returns-in_err-sealed
returns-in_err-sealed g c = IfOk-from_err c.from_residual.result _ c.from_residual.ensures.0
