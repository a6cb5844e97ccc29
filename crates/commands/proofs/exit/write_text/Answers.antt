use Rattle.std.proofs.Common.{refl, ap}
use Rattle.std.proofs.lemmas.Result.{err_from_is_err_and}
use Rattle.commands.specs.Exit.{error_status}
use Rattle.commands.specs.Output.{IsJust}
use Rattle.commands.proofs.Outputs.{cut_part, ends_just, ends_output, keeps_after, part_all}
use Rattle.commands.proofs.exit.write_text.Goals as goal

pub returns-in_err-flush : goal.returns-in_err-flush
returns-in_err-flush g c =
    let before = g.O.Write.contents c.args.out.now in
    let after = g.O.Write.contents c.flush.new.self in
    let text = c.args.text.now in
    let p = err_from_is_err_and c.from_residual-in_err-flush.result c.from_residual-in_err-flush.ensures.1 in
    let grew = keeps_after before (g.O.Write.contents c.write_bytes.new.out) after text c.in_ok-write_bytes.ensures.written c.in_err-flush.ensures.bytes in
    ends_output (IsJust c.args.status text) _ _ p.0 before after p.1 (ap error_status p.2) (cut_part before after _ text (c.args.status, (refl, refl)) (part_all before after text grew))

pub returns : goal.returns
returns g c =
    let before = g.O.Write.contents c.args.out.now in
    let after = g.O.Write.contents c.flush.new.self in
    let grew = keeps_after before (g.O.Write.contents c.write_bytes.new.out) after c.args.text.now c.in_ok-write_bytes.ensures.written c.in_ok-flush.ensures.bytes in
    ends_just c.args.status c.args.text.now before after c.requires grew
