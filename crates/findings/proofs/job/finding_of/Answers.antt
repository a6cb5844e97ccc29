use Rattle.std.proofs.Common.{Err, sym, ap, subst, ◌∙◌}
use Rattle.std.proofs.lemmas.Result.{IfOk-from_err, err_from_is_err_and}
use Rattle.trace_model.specs.declared.limits.TheConstants.{MAX_CYCLES}
use Rattle.trace_model.specs.Theory.Trace.{Trace}
use Rattle.trace_model.specs.Theory.Dependencies.{dependencies}
use Rattle.cycle_search.specs.CycleSearch.{CycleFrom, MoreThan}
use Rattle.sp_closure.specs.Scratches.{IsScratch}
use Rattle.snapshots.specs.Found.{AreRowsOf, RowsOfTask}
use Rattle.findings.specs.Analyses.{AnalysisView, AreAnalysisTables}
use Rattle.findings.specs.declared.computing.ComputeRefused.{ComputeRefused}
use Rattle.findings.proofs.Refusals.{found_not_refused, lacking_not_many, same_refusal}
use Rattle.findings.proofs.job.finding_of.Goals as goal

pub returns-in_default : goal.returns-in_default
returns-in_default c = record { scratch = c.requires.scratch; asked = tt; too_many = λ e. absurd (lacking_not_many e) }

pub rows_of-requires : goal.rows_of-requires
rows_of-requires c =
    let same = c.deref.ensures ∙ c.in-Ok.ensures in
    let view = c.analysis.view_is in
    record {
      tables = subst (λ (s : Trace). AreAnalysisTables s c.analysis.inside.bound c.analysis.inside.tables) (sym same) c.analysis.invariant;
      scratch = λ kept is d at.
          subst (λ (s : Trace). IsScratch s d kept.value) (sym (same ∙ ap (λ (a : AnalysisView). a.events) view))
          (c.requires.scratch kept is d (sym (ap (λ (a : AnalysisView). a.requirements) view) ∙ at));
    }

pub returns-in_err-rows : goal.returns-in_err-rows
returns-in_err-rows c =
    let same = c.deref.ensures ∙ c.in-Ok.ensures in
    let view = c.analysis.view_is in
    let fact = err_from_is_err_and c.from_residual.result c.from_residual.ensures.1 in
    record {
      scratch = λ kept is d at.
          subst (λ (s : Trace). IsScratch s d kept.value) (same ∙ ap (λ (a : AnalysisView). a.events) view)
          (c.rows_of.ensures.scratch kept is d (ap (λ (a : AnalysisView). a.requirements) view ∙ at));
      asked = IfOk-from_err c.from_residual.result _ c.from_residual.ensures.0;
      too_many = λ e.
          let many = c.in_err-rows.was ∙ ap (λ (r : ComputeRefused). Err r) (sym fact.2 ∙ same_refusal _ _ (sym fact.1 ∙ e)) in
          subst (λ (a : AnalysisView). MoreThan (CycleFrom (dependencies a.events) a.bound c.args.task) MAX_CYCLES) view
          (subst (λ (s : Trace). MoreThan (CycleFrom (dependencies s) c.analysis.inside.bound c.args.task) MAX_CYCLES) same (c.rows_of.ensures.too_many many));
    }

pub of-requires : goal.of-requires
of-requires c = subst (λ (s : Trace). AreRowsOf s c.analysis.inside.bound c.args.task c.in_ok-rows.rows.items) c.deref.ensures c.in_ok-rows.ensures.rows

pub returns : goal.returns
returns c =
    let same = c.deref.ensures ∙ c.in-Ok.ensures in
    let view = c.analysis.view_is in
    record {
      scratch = λ kept is d at.
          subst (λ (s : Trace). IsScratch s d kept.value) (same ∙ ap (λ (a : AnalysisView). a.events) view)
          (c.rows_of.ensures.scratch kept is d (ap (λ (a : AnalysisView). a.requirements) view ∙ at));
      asked = (
        ap (λ (f : RowsOfTask). f.question) c.of.ensures,
        ap (λ (f : RowsOfTask). f.bound) c.of.ensures ∙ ap (λ (a : AnalysisView). a.bound) view,
        ap (λ (f : RowsOfTask). f.task) c.of.ensures,
        ap (λ (f : RowsOfTask). f.events) c.of.ensures ∙ (c.in-Ok.ensures ∙ ap (λ (a : AnalysisView). a.events) view),
      );
      too_many = λ e. absurd (found_not_refused _ _ e);
    }
