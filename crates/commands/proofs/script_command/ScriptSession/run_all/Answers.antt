use Rattle.std.specs.Prelude.{OnErr}
use Rattle.std.proofs.lemmas.Result.{err_from_is_err_and}
use Rattle.std.proofs.Common.{◌+◌, List, [], ◌∷◌, ◌++◌, take, refl, sym, ap, subst, ◌∙◌}
use Rattle.std.proofs.lemmas.List.{take_all, take_more}
use Rattle.commands.specs.ScriptFile.{FitsCommand}
use Rattle.commands.specs.ScriptTells.{IsPrintOf, PrintsAll, PrintsFirst}
use Rattle.commands.specs.Output.{IsCutShort, Writes}
use Rattle.commands.specs.declared.script_command.reading.Command.{Command}
use Rattle.commands.proofs.Outputs.{appends_more, appends_nothing, cut_after}
use Rattle.commands.proofs.ScriptPrints.{prints_more}
use Rattle.commands.proofs.script_command.ScriptSession.run_all.Goals as goal

pub loop-command-init : goal.loop-command-init
loop-command-init g c = ([], (refl, refl), appends_nothing (g.O.Write.contents c.args.out.now))

pub run-requires : goal.run-requires
run-requires g c = subst FitsCommand (sym c.command-item.is) (c.requires c.loop-command.command-index c.command-item.result c.loop-command-test.true)

pub loop-command-preserved : goal.loop-command-preserved
loop-command-preserved g c =
    let start = c.args.self.now.book.state in
    let mid = c.loop-command.self.book.state in
    let next = c.run.new.self.book.state in
    let commands = c.args.commands.now in
    let i = c.loop-command.command-index in
    let command = c.command-item.result in
    let before = g.O.Write.contents c.args.out.now in
    let between = g.O.Write.contents c.loop-command.out in
    let after = g.O.Write.contents c.run.new.out in
    let (text, all, grew) = c.loop-command.invariant in
    let (more, prints, grown) = c.in_ok-run.ensures.printed in
    let taken = ap (λ (x : Command). take i commands ++ x ∷ []) c.command-item.is ∙ sym (take_more commands i command c.loop-command-test.true) in (
      text ++ more,
      subst (λ (cs : List Command). PrintsAll start cs next (text ++ more)) taken (prints_more start mid next (take i commands) command text more all prints),
      appends_more before between after text more grew grown,
    )

pub returns-clause-printed : goal.returns-clause-printed
returns-clause-printed g c =
    let start = c.args.self.now.book.state in
    let last = c.loop-command.self.book.state in
    let before = g.O.Write.contents c.args.out.now in
    let after = g.O.Write.contents c.loop-command.out in
    subst (λ (cs : List Command). Writes before after (PrintsAll start cs last)) (take_all c.loop-command.command-index c.args.commands.now c.loop-command-test.false) c.loop-command.invariant

pub returns-in_err-run-clause-cut : goal.returns-in_err-run-clause-cut
returns-in_err-run-clause-cut g c =
    let start = c.args.self.now.book.state in
    let mid = c.loop-command.self.book.state in
    let commands = c.args.commands.now in
    let i = c.loop-command.command-index in
    let command = c.command-item.result in
    let before = g.O.Write.contents c.args.out.now in
    let between = g.O.Write.contents c.loop-command.out in
    let after = g.O.Write.contents c.run.new.out in
    let (text, all, grew) = c.loop-command.invariant in
    let taken = ap (λ (x : Command). take i commands ++ x ∷ []) c.command-item.is ∙ sym (take_more commands i command c.loop-command-test.true) in
    let p = err_from_is_err_and c.from_residual.result c.from_residual.ensures.1 in
    let first = PrintsFirst start commands in
    let cut = cut_after before between after (IsPrintOf mid command) first text grew (i, mid, all)
    (λ y prints. (i + 1, prints.0, subst (λ (cs : List Command). PrintsAll start cs prints.0 (text ++ y)) taken (prints_more start mid prints.0 (take i commands) command text y all prints.1))) c.in_err-run.ensures.cut in
    subst (λ r. OnErr r (IsCutShort before after first)) (sym p.1) cut
