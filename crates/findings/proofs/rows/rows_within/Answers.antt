use Rattle.std.proofs.Common.{refl}
use Rattle.trace_model.specs.Theory.Dependencies.{dependencies}
use Rattle.findings.proofs.Members.{some_cycles, rows_are}
use Rattle.findings.proofs.rows.rows_within.Goals as goal

pub rows_by-requires-clause-cycles : goal.rows_by-requires-clause-cycles
rows_by-requires-clause-cycles c =
    let all = rw c.in-Ok-All.field-0-is at c.in-Ok-All.ensures.searched in
    some_cycles c.args.snapshot.now c.args.bound c.args.search.task c.in-Ok-All.cycles.items all.0

pub returns-in_ok-rows-in-Ok-All-clause-searched : goal.returns-in_ok-rows-in-Ok-All-clause-searched
returns-in_ok-rows-in-Ok-All-clause-searched c =
    let s = c.args.snapshot.now in
    let all = rw c.in-Ok-All.field-0-is at c.in-Ok-All.ensures.searched in
    rows_are s (dependencies s) c.args.bound c.args.search.task c.in-Ok-All.cycles.items c.in_ok-rows-in-Ok-All.rows.items refl all.0 all.1 c.in_ok-rows-in-Ok-All.ensures.rows
