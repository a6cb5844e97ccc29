use Rattle.std.proofs.Common.{ℕ, IfErr, sym, ap, subst, ◌∙◌}
use Rattle.trace_model.specs.Theory.Dependencies.{dependencies}
use Rattle.trace_model.specs.Theory.Trace.{Trace}
use Rattle.cycle_search.specs.CycleSearch.{CycleFrom}
use Rattle.sp_closure.specs.Scratches.{IsScratch}
use Rattle.findings.specs.Analyses.{AnalysisView}
use Rattle.findings.specs.Collecting.{RefusesRows}
use Rattle.findings.proofs.job.collected_by.Goals as goal

pub collect_by-requires-clause-scratch : goal.collect_by-requires-clause-scratch
collect_by-requires-clause-scratch g c kept is d at =
    let view = c.analysis.view_is in
    subst (λ (s : Trace). IsScratch s d kept.value) (sym (c.deref.ensures ∙ ap (λ (a : AnalysisView). a.events) view))
    (c.requires.scratch kept is d (sym (ap (λ (a : AnalysisView). a.requirements) view) ∙ at))

pub returns-clause-refused : goal.returns-clause-refused
returns-clause-refused g c =
    let taking = g.C.Collector.taking in
    let task = c.args.task in
    subst (λ (b : ℕ). IfErr c.collect_by.result (RefusesRows taking c.args.analysis.now.events (CycleFrom (dependencies c.args.analysis.now.events) b task) c.args.rows)) c.bound.ensures
    (subst (λ (s : Trace). IfErr c.collect_by.result (RefusesRows taking s (CycleFrom (dependencies s) c.bound.result task) c.args.rows))
    (c.deref.ensures ∙ ap (λ (a : AnalysisView). a.events) c.analysis.view_is) c.collect_by.ensures.refused)
