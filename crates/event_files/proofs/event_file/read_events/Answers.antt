use Rattle.std.proofs.Common.{◌<◌, ◌^◌, IfErr, length, sym, subst, arith, rules}
use Rattle.std.proofs.lemmas.Result.{err_from_is_err_and}
use Rattle.event_files.specs.EventFile.{pieces_at, RefusesLines}
use Rattle.event_files.proofs.ReadLines.{read_all, read_more, read_refused}
use Rattle.event_files.proofs.event_file.read_events.Goals as goal

pub returns-in_err-more-clause-refused : goal.returns-in_err-more-clause-refused
returns-in_err-more-clause-refused c =
    let file = c.args.file.now in
    let fits : length file < 2 ^ 64 = search rules in
    let p = err_from_is_err_and c.from_residual-in_err-more.result c.from_residual-in_err-more.ensures.1 in
    let refused = read_refused file c.loop-kept.kept.items c.loop-kept.rest.now c.loop-kept.number c.in_err-more.field-0.0 fits c.loop-kept.invariant c.in_err-more.ensures.refused in
    subst (λ r. IfErr r (RefusesLines (pieces_at 10 file))) (sym p.1) (subst (RefusesLines (pieces_at 10 file)) (sym p.2) refused)

pub loop-kept-preserved : goal.loop-kept-preserved
loop-kept-preserved c =
    let s = c.loop-kept.invariant in
    let line = rw c.in-Some.is at c.in_ok-more.ensures.kept in
    let m = read_more c.args.file.now c.loop-kept.kept.items c.keep_line.new.kept.items c.loop-kept.rest.now (pieces_at 10 c.in-Some.more.now) c.loop-kept.number s line in
    record {
      index = m.0;
      lines = m.2;
      events = m.3;
      counts = λ room. omega (arith, m.1, s.counts (omega (arith, room, m.1)), c.saturating_add-number.ensures);
    }

pub returns-clause-events : goal.returns-clause-events
returns-clause-events c =
    let line = rw c.in_default.is at c.in_ok-more.ensures.kept in
    read_all c.args.file.now c.loop-kept.kept.items c.keep_line.new.kept.items c.loop-kept.rest.now c.loop-kept.number c.loop-kept.invariant line
