use Rattle.std.proofs.Common.{sym, ap, subst, ◌∙◌}
use Rattle.trace_model.specs.Theory.Dependencies.{dependencies}
use Rattle.trace_model.specs.Theory.Trace.{Trace}
use Rattle.cycle_search.specs.Pausing.{IsSearchOf}
use Rattle.sp_closure.specs.Scratches.{IsScratch}
use Rattle.findings.specs.Analyses.{AnalysisView}
use Rattle.findings.proofs.job.advanced_by.Goals as goal

pub rows_within-requires-clause-scratch : goal.rows_within-requires-clause-scratch
rows_within-requires-clause-scratch c kept is d at =
    let view = c.analysis.view_is in
    subst (λ (s : Trace). IsScratch s d kept.value) (sym (c.deref.ensures ∙ c.in-Ok.ensures ∙ ap (λ (a : AnalysisView). a.events) view))
    (c.requires.scratch kept is d (sym (ap (λ (a : AnalysisView). a.requirements) view) ∙ at))

pub rows_within-requires-clause-search : goal.rows_within-requires-clause-search
rows_within-requires-clause-search c begun is =
    let view = c.analysis.view_is in
    let task = c.args.search.task in
    let bound = c.analysis.inside.bound in
    subst (λ (s : Trace). IsSearchOf (dependencies s) bound task begun) (sym (c.deref.ensures ∙ c.in-Ok.ensures ∙ ap (λ (a : AnalysisView). a.events) view))
    (subst (λ b. IsSearchOf (dependencies c.args.analysis.now.events) b task begun) (sym (ap (λ (a : AnalysisView). a.bound) view)) (c.requires.search begun is))
