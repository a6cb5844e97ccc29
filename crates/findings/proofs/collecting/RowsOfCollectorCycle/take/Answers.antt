use Rattle.std.proofs.Common.{refl, sym, ap, subst}
use Rattle.trace_model.specs.Theory.Cycles.{IsCycle}
use Rattle.trace_model.specs.Theory.Dependencies.{dependencies}
use Rattle.findings.specs.Collecting.{AcceptsRows, RowsView, TookRowsFor}
use Rattle.findings.proofs.CollectedRows.{refused_row, took_row}
use Rattle.findings.proofs.collecting.RowsOfCollectorCycle.take.Goals as goal
use Rattle.findings.proofs.collecting.RowsOfCollectorCycle.take.Goals.{in-Ok-take, in-Err}

pub row_by-requires-clause-cycle : goal.row_by-requires-clause-cycle
row_by-requires-clause-cycle g c =
    subst (λ (r : RowsView g.row.C.Denot). IsCycle (dependencies r.events) r.bound c.args.cycle) (sym c.self.view_is) c.requires.0

pub returns-in_default : goal.returns-in_default
returns-in_default g c start before took = tt

pub take-requires : goal.take-requires
take-requires g c =
    subst (AcceptsRows g.C.Collector.taking) (sym (ap (λ (r : RowsView g.row.C.Denot). r.rows) c.self.view_is)) c.requires.1 c.in-Ok.row

pub returns : goal.returns
returns g c start before took =
    let taking = g.C.Collector.taking in
    let old : RowsView g.row.C.Denot = record { events = c.self.inside.snapshot.now; bound = c.self.inside.bound; requirements = c.self.inside.tables.now.requirements; rows = c.self.inside.rows } in
    let took' = subst (TookRowsFor taking start before) (sym c.self.view_is) took in
    elim c.match-take.branch [
      | in-Ok-take w ↦
          let new : RowsView g.row.C.Denot = record { events = old.events; bound = old.bound; requirements = old.requirements; rows = c.take.new.self } in
          rw w.result-is (took_row taking start old before c.args.cycle c.in-Ok.row took' c.in-Ok.ensures.row new (record { events = refl; bound = refl; requirements = refl }) w.in-Ok-take.ensures)
      | in-Err w ↦ rw w.result-is (refused_row taking start old before c.args.cycle c.in-Ok.row took' c.in-Ok.ensures.row _ w.in-Err.ensures)
    ]
