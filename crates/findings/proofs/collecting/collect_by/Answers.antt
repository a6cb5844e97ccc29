use Rattle.std.proofs.Common.{sym, ap, subst, ◌∙◌}
use Rattle.trace_model.specs.Theory.Trace.{Trace}
use Rattle.trace_model.specs.Theory.Dependencies.{dependencies}
use Rattle.cycle_search.specs.CycleSearch.{CycleFrom}
use Rattle.sp_closure.specs.Scratches.{IsScratch}
use Rattle.findings.specs.Collecting.{RowsView, TookRows}
use Rattle.findings.proofs.CollectedRows.{refused_all, took_all}
use Rattle.findings.proofs.collecting.collect_by.Goals as goal

pub returns-in-Ok-Ok-clause-scratch : goal.returns-in-Ok-Ok-clause-scratch
returns-in-Ok-Ok-clause-scratch g c kept is d at =
    let start : RowsView g.row.C.Denot = record { events = c.args.snapshot.now; bound = c.args.bound; requirements = c.args.tables.now.requirements; rows = c.args.rows } in
    let cycle = CycleFrom (dependencies c.args.snapshot.now) c.args.bound c.args.task in
    let fact = took_all g.C.Collector.taking cycle start c.collect.new.collector c.in-Ok-Ok.field-0 c.in-Ok-Ok.ensures _ c.in-Ok-Ok.field-0-is in
    let view = c.collector.view_is in
    subst (λ (s : Trace). IsScratch s d kept.value) (ap (λ (r : RowsView g.row.C.Denot). r.events) view ∙ fact.0.events)
    (c.collector.invariant.1 kept is d (ap (λ (r : RowsView g.row.C.Denot). r.requirements) view ∙ (fact.0.requirements ∙ at)))

pub returns-in-Ok-Ok-clause-rows : goal.returns-in-Ok-Ok-clause-rows
returns-in-Ok-Ok-clause-rows g c =
    let taking = g.C.Collector.taking in
    let start : RowsView g.row.C.Denot = record { events = c.args.snapshot.now; bound = c.args.bound; requirements = c.args.tables.now.requirements; rows = c.args.rows } in
    let cycle = CycleFrom (dependencies c.args.snapshot.now) c.args.bound c.args.task in
    let fact = took_all taking cycle start c.collect.new.collector c.in-Ok-Ok.field-0 c.in-Ok-Ok.ensures _ c.in-Ok-Ok.field-0-is in
    subst (TookRows taking c.args.snapshot.now cycle c.args.rows) (sym (ap (λ (r : RowsView g.row.C.Denot). r.rows) c.collector.view_is)) fact.1

pub returns-in-Ok-Err-clause-refused : goal.returns-in-Ok-Err-clause-refused
returns-in-Ok-Err-clause-refused g c =
    let start : RowsView g.row.C.Denot = record { events = c.args.snapshot.now; bound = c.args.bound; requirements = c.args.tables.now.requirements; rows = c.args.rows } in
    let cycle = CycleFrom (dependencies c.args.snapshot.now) c.args.bound c.args.task in
    refused_all g.C.Collector.taking cycle start c.collect.new.collector c.in-Ok-Err.field-0 c.in-Ok-Err.ensures c.in-Ok-Err.refused c.in-Ok-Err.field-0-is
