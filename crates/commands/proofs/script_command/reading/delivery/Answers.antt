use Rattle.std.proofs.Common.{◌∷◌, [], sym, subst, ◌∙◌, IfNone}
use Rattle.commands.specs.ScriptFile.{SaysOnlyEvents}
use Rattle.commands.proofs.WrongLines.{error_of, no_keyword}
use Rattle.commands.proofs.script_command.reading.delivery.Goals as goal

pub returns-in_err-ok-clause-none : goal.returns-in_err-ok-clause-none
returns-in_err-ok-clause-none c =
    let more = c.args.question.now ∷ c.args.task.now ∷ [] in
    let fault = error_of c.from_utf8.result _ _ c.from_utf8.ensures.cases (sym c.ok.ensures.value ∙ c.in_err-ok.was) in
    subst (λ outcome. IfNone outcome (SaysOnlyEvents (c.args.keyword.now ∷ more))) (sym c.from_residual.ensures) (no_keyword c.args.keyword.now more fault.1.0)
