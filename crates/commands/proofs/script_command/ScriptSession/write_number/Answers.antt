use Rattle.std.proofs.Common.{◌++◌, ◌∙◌, ap, sym, subst}
use Rattle.std.specs.Prelude.{OnErr}
use Rattle.commands.specs.Output.{AppendsPart}
use Rattle.commands.specs.ScriptRun.{outcome_line}
use Rattle.commands.specs.Text.{labeled_line}
use Rattle.commands.proofs.script_command.ScriptSession.write_number.Goals as goal

pub returns-in_ok-push_last-in-Ok-clause-cut : goal.returns-in_ok-push_last-in-Ok-clause-cut
returns-in_ok-push_last-in-Ok-clause-cut g c =
    let words = c.args.words.now in
    let before = g.O.Write.contents c.args.out.now in
    let after = g.O.Write.contents c.write_bytes.new.out in
    let line = c.deref.ensures.value ∙ c.in_ok-push_last-in-Ok.ensures ∙ ap (λ l. l ++ labeled_line words c.in-Ok.number) c.clear.ensures.items ∙ ap (outcome_line words) (sym c.in-Ok.is) in
    subst (λ text. OnErr c.write_bytes.result (AppendsPart before after text)) line c.write_bytes.ensures.cut
