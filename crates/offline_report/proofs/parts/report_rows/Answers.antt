use Rattle.std.proofs.Common.{sym, ◌∙◌, arith}
use Rattle.offline_report.proofs.Sizes.{rows_are}
use Rattle.offline_report.proofs.Texts.{confirmed_few, cycles_within, head_is, is_short, over_head, over_rows}
use Rattle.offline_report.proofs.parts.report_rows.Goals as goal

pub returns-in_default : goal.returns-in_default
returns-in_default c tasks written =
    over_rows c.args.events c.args.bound tasks c.args.parts.items written (rw c.deref.ensures.value at c.in_default.ensures)

pub cycles_in-cycles-requires : goal.cycles_in-cycles-requires
cycles_in-cycles-requires c =
    let left = rw c.deref.ensures.value at c.in-Some.ensures in
    let within = rw (sym c.deref-2.ensures.value) at (cycles_within c.args.events c.args.bound c.requires.0 c.args.parts.items c.requires.1 c.in-Some.rest left) in
    omega (arith, within)

pub confirmed_among-confirmed-requires : goal.confirmed_among-confirmed-requires
confirmed_among-confirmed-requires c =
    let left = rw c.deref.ensures.value at c.in-Some.ensures in
    let within = rw (sym c.deref-3.ensures.value) at (confirmed_few c.args.events c.args.bound c.requires.0 c.args.parts.items c.requires.1 c.in-Some.rest left) in
    omega (arith, within)

pub returns-then-rest-len : goal.returns-then-rest-len
returns-then-rest-len c tasks written =
    let left = rw c.deref.ensures.value at c.in-Some.ensures in
    let head = rw (c.cycles_in-cycles.ensures, c.deref-2.ensures.value, c.confirmed_among-confirmed.ensures, c.deref-3.ensures.value) at c.in_ok-first_line.ensures in
    over_head c.args.events c.args.bound tasks c.args.parts.items written c.in_ok-first_line.first_line.items c.in-Some.rest head left (omega (arith, c.if-rest-len.true, c.len.ensures))

pub returns : goal.returns
returns c tasks written =
    let left = rw c.deref.ensures.value at c.in-Some.ensures in
    let head = rw (c.cycles_in-cycles.ensures, c.deref-2.ensures.value, c.confirmed_among-confirmed.ensures, c.deref-3.ensures.value) at c.in_ok-first_line.ensures in (
      c.in_ok-tasks.ensures ∙ rows_are tasks c.args.parts.items written,
      head ∙ head_is c.args.events c.args.bound tasks c.args.parts.items written,
      is_short c.args.events c.args.bound tasks c.args.parts.items written c.in_ok-first_line.first_line.items c.in-Some.rest head left (omega (arith, c.if-rest-len.false, c.len.ensures)),
    )
