use Rattle.std.proofs.Common.{sym, subst}
use Rattle.std.proofs.lemmas.Result.{IfOk-from_err}
use Rattle.dependencies.specs.Tables.{Listing, EndBelow}
use Rattle.dependencies.proofs.table.DepTable.note.Goals as goal

pub record-requires-clause-below : goal.record-requires-clause-below
record-requires-clause-below c = subst (λ (listing : Listing). EndBelow listing c.args.place) (sym c.reserve.ensures.shown) c.requires

pub returns-in_err-reserve-clause-ok : goal.returns-in_err-reserve-clause-ok
returns-in_err-reserve-clause-ok c = IfOk-from_err c.from_residual.result _ c.from_residual.ensures.0
