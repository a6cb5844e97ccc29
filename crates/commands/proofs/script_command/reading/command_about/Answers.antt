use Rattle.std.proofs.Common.{◌∷◌, [], decimal, sym, subst, ◌∙◌, IfNone, arith}
use Rattle.commands.specs.ScriptFile.{SaysOnlyEvents}
use Rattle.commands.proofs.WrongLines.{error_of, large_bound, large_of, no_keyword, value_of}
use Rattle.commands.proofs.script_command.reading.command_about.Goals as goal

pub returns-in_err-ok-clause-none : goal.returns-in_err-ok-clause-none
returns-in_err-ok-clause-none c =
    let words = c.args.keyword.now ∷ decimal c.args.number ∷ [] in
    let fault = error_of c.from_utf8.result _ _ c.from_utf8.ensures.cases (sym c.ok.ensures.value ∙ c.in_err-ok.was) in
    subst (λ outcome. IfNone outcome (SaysOnlyEvents words)) (sym c.from_residual.ensures) (no_keyword c.args.keyword.now (decimal c.args.number ∷ []) fault.1.0)

pub returns-in_err-ok-in-ask-clause-none : goal.returns-in_err-ok-in-ask-clause-none
returns-in_err-ok-in-ask-clause-none c =
    let words = c.args.keyword.now ∷ decimal c.args.number ∷ [] in
    let large = large_of c.try_from.result c.args.number c.try_from.ensures (sym c.ok-in-ask.ensures.value ∙ c.in_err-ok-in-ask.was) in
    let text = value_of c.from_utf8.result c.in_ok-ok.field-0 _ _ c.from_utf8.ensures.cases (sym c.ok.ensures.value ∙ c.in_ok-ok.was) in
    let ask = sym text.0 ∙ c.in-ask.is in
    subst (λ outcome. IfNone outcome (SaysOnlyEvents words)) (sym c.from_residual-in_err-ok-in-ask.ensures) (large_bound c.args.keyword.now c.args.number (omega (arith, c.ranges.number.fits)) large ask)
