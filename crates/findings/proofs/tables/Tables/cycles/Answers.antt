use Rattle.std.proofs.Common.{sym, subst}
use Rattle.trace_model.specs.Theory.Cycles.{AreCyclesFrom}
use Rattle.trace_model.specs.Theory.Dependencies.{dependencies}
use Rattle.findings.proofs.Members.{none_from}
use Rattle.findings.proofs.tables.Tables.cycles.Goals as goal

pub returns-in-None-clause-ok : goal.returns-in-None-clause-ok
returns-in-None-clause-ok c =
    let ds = dependencies c.args.snapshot.now in
    subst (AreCyclesFrom ds c.args.bound c.args.task) (sym c.new.ensures.items) (none_from ds c.args.bound c.args.task c.in-None.ensures)
