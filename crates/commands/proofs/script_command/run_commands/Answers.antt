use Rattle.std.proofs.Common.{List, ℕ, ◌∙◌, ap, subst}
use Rattle.std.proofs.lemmas.Result.{err_from_is_err_and}
use Rattle.trace_model.specs.Protocol.Machine.{State, opening}
use Rattle.commands.specs.Exit.{error_status}
use Rattle.commands.specs.Output.{IsCutShort}
use Rattle.commands.specs.ScriptTells.{PrintsAll, PrintsFirst, RunPrints}
use Rattle.commands.specs.declared.exit.Status.{Status}
use Rattle.commands.specs.declared.exit.Status.TheVariants.{Done, Error}
use Rattle.commands.proofs.Outputs.{cut_kept, cut_part, cut_weaker, ends_output, keeps_after, part_all}
use Rattle.commands.proofs.script_command.run_commands.Goals as goal

pub returns-in_err-ran : goal.returns-in_err-ran
returns-in_err-ran g c =
    let before = g.O.Write.contents c.args.out.now in
    let between = g.O.Write.contents c.run_all-ran.new.out in
    let after = g.O.Write.contents c.flush-flushed.new.self in
    let commands = c.args.commands.now in
    let limit = c.args.limit in
    let first = PrintsFirst (opening limit) commands in
    let p = err_from_is_err_and c.from_residual.result c.from_residual.ensures.1 in
    let cut = subst (λ (s : State). IsCutShort before between (PrintsFirst s commands)) c.in-Ok.ensures.made c.in_err-ran.ensures.cut in
    ends_output (RunPrints limit commands) _ _ p.0 before after p.1 (ap error_status p.2 ∙ c.in_err-ran.ensures.failed)
    (cut_weaker before after first (λ text. (status : Status) × RunPrints limit commands status text) (λ x is. (Error, is)) (cut_kept before between after first cut c.flush-flushed.ensures.bytes))

pub returns-in_err-flushed : goal.returns-in_err-flushed
returns-in_err-flushed g c =
    let last = c.run_all-ran.new.self.book.state in
    let before = g.O.Write.contents c.args.out.now in
    let between = g.O.Write.contents c.run_all-ran.new.out in
    let after = g.O.Write.contents c.flush-flushed.new.self in
    let commands = c.args.commands.now in
    let limit = c.args.limit in
    let (text, all, grew) = c.in_ok-ran.ensures.printed in
    let p = err_from_is_err_and c.from_residual-in_err-flushed.result c.from_residual-in_err-flushed.ensures.1 in
    let done = subst (λ (s : State). PrintsAll s commands last text) c.in-Ok.ensures.made all in
    ends_output (RunPrints limit commands) _ _ p.0 before after p.1 (ap error_status p.2)
    (cut_part before after (λ (x : List ℕ). (status : Status) × RunPrints limit commands status x) text (Done, (last, done)) (part_all before after text (keeps_after before between after text grew c.in_err-flushed.ensures.bytes)))
