use Rattle.std.proofs.lemmas.Result.{IfOk-from_err}
use Rattle.std.proofs.Common.{ap, ◌∙◌}
use Rattle.segments.specs.Notes.{pairs_of}
use Rattle.segments.proofs.numbered.NumberedPlaces.reserve.Goals as goal

pub returns-in_err-reserve-clause-ok : goal.returns-in_err-reserve-clause-ok
returns-in_err-reserve-clause-ok c = IfOk-from_err c.from_residual.result _ c.from_residual.ensures.0

pub returns-in_err-reserve-2-clause-ok : goal.returns-in_err-reserve-2-clause-ok
returns-in_err-reserve-2-clause-ok c = IfOk-from_err c.from_residual-in_err-reserve-2.result _ c.from_residual-in_err-reserve-2.ensures.0

pub returns-in_err-reserve-clause-notes : goal.returns-in_err-reserve-clause-notes
returns-in_err-reserve-clause-notes c = ap (λ v. v.notes) c.self.view_is

pub returns-in_err-reserve-clause-numbers : goal.returns-in_err-reserve-clause-numbers
returns-in_err-reserve-clause-numbers c = c.reserve.ensures.len ∙ ap (λ v. v.numbers) c.self.view_is

pub returns-in_err-reserve-2-clause-notes : goal.returns-in_err-reserve-2-clause-notes
returns-in_err-reserve-2-clause-notes c = ap pairs_of c.reserve-2.ensures.shown ∙ ap (λ v. v.notes) c.self.view_is

pub returns-in_err-reserve-2-clause-numbers : goal.returns-in_err-reserve-2-clause-numbers
returns-in_err-reserve-2-clause-numbers c = c.reserve.ensures.len ∙ ap (λ v. v.numbers) c.self.view_is

pub returns-clause-notes : goal.returns-clause-notes
returns-clause-notes c = ap pairs_of c.reserve-2.ensures.shown ∙ ap (λ v. v.notes) c.self.view_is

pub returns-clause-numbers : goal.returns-clause-numbers
returns-clause-numbers c = c.reserve.ensures.len ∙ ap (λ v. v.numbers) c.self.view_is
