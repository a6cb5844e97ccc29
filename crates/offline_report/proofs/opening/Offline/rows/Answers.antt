use Rattle.std.proofs.Common.{◌≡◌, ◌≤◌, ℕ, List, flat_map, length, IfErr, ap, subst, sym, ◌∙◌}
use Rattle.std.specs.Arc.{arc_value}
use Rattle.std.proofs.lemmas.Result.{err_from_is_err_and}
use Rattle.trace_model.specs.declared.limits.TheConstants.{MAX_REPORT}
use Rattle.trace_model.specs.Theory.Lawful.{IsWellFormed}
use Rattle.trace_model.specs.Theory.Rows.{Row}
use Rattle.findings.specs.Analyses.{AnalysisView}
use Rattle.findings.specs.Found.{AskedQuestion}
use Rattle.offline_report.specs.Offline.{AreReportRowsOf, AreTasks, IsNotComputed, IsOfflineRefusal, IsReportRows, first_line_of, printed_rows, report_of}
use Rattle.offline_report.specs.declared.refused.OfflineRefused.TheVariants.{TooLong}
use Rattle.offline_report.proofs.WholeReports.{all_plain, are_tasks, not_computed, printed_all, report_is, too_long}
use Rattle.offline_report.proofs.Texts.{fitting}
use Rattle.offline_report.proofs.opening.Offline.rows.Goals as goal

pub returns-in_err-parts-clause-refused : goal.returns-in_err-parts-clause-refused
returns-in_err-parts-clause-refused g c =
    let p = err_from_is_err_and c.from_residual.result c.from_residual.ensures.1 in
    subst (λ r. IfErr r (IsOfflineRefusal c.args.self.now.events c.args.self.now.bound)) (sym p.1)
    (not_computed c.args.self.now.events c.args.self.now.bound p.0 (subst IsNotComputed (sym p.2) c.in_err-parts.ensures))

pub returns-in-Ok-Some-clause-rows : goal.returns-in-Ok-Some-clause-rows
returns-in-Ok-Some-clause-rows g c =
    let s = (arc_value c.self.inside.analysis).events in
    let bound = (arc_value c.self.inside.analysis).bound in
    let most = c.bound.ensures ∙ ap (λ (a : AnalysisView). a.bound) c.deref-analysis.ensures in
    let same = c.snapshot-snapshot.ensures ∙ ap (λ (a : AnalysisView). a.events) c.deref-analysis.ensures in
    let len = c.len-length.ensures.length ∙ ap length same in
    let (tasks, are) = c.in_ok-parts.ensures.0 in
    let parts = c.in_ok-parts.parts.items in
    let found = subst (AreReportRowsOf c.len-length.result bound tasks) c.in-Ok-Some.field-0-is
    (subst (λ (b : ℕ). AreReportRowsOf c.len-length.result b tasks c.in-Ok-Some.field-0) most (c.in-Ok-Some.ensures tasks are.written)) in
    let few = fitting c.len-length.result bound tasks parts are.written found.2 in
    let plainly : all_plain tasks ≡ _ = sym found.0 in
    subst (λ (q : AskedQuestion). IsReportRows q.events q.bound c.in-Ok-Some.found) c.self.view_is (record {
      well_formed = subst IsWellFormed same c.len-length.ensures.well_formed;
      tasks = subst (AreTasks s bound) plainly (are_tasks s bound tasks parts are (c.in_ok-parts.ensures.1 few));
      first_line = found.1 ∙ ap (λ n. first_line_of n bound (flat_map (λ rows. rows) tasks)) len
          ∙ ap (first_line_of (length s) bound) (sym (printed_all s bound _ tasks _ are))
          ∙ ap (λ (rows : List (List Row)). first_line_of (length s) bound (printed_rows s (flat_map (λ rows. rows) rows))) plainly;
      short = subst (λ (rows : List (List Row)). length (report_of s bound rows) ≤ MAX_REPORT) plainly
          (subst (λ (text : List ℕ). length text ≤ MAX_REPORT) (report_is s bound _ _ tasks _ are len) found.2);
    })

pub returns-in-Ok-None-clause-refused : goal.returns-in-Ok-None-clause-refused
returns-in-Ok-None-clause-refused g c =
    let s = (arc_value c.self.inside.analysis).events in
    let bound = (arc_value c.self.inside.analysis).bound in
    let most = c.bound.ensures ∙ ap (λ (a : AnalysisView). a.bound) c.deref-analysis.ensures in
    let same = c.snapshot-snapshot.ensures ∙ ap (λ (a : AnalysisView). a.events) c.deref-analysis.ensures in
    let (tasks, are) = c.in_ok-parts.ensures.0 in
    let over = subst (AreReportRowsOf c.len-length.result bound tasks) c.in-Ok-None.field-0-is
    (subst (λ (b : ℕ). AreReportRowsOf c.len-length.result b tasks c.in-Ok-None.field-0) most (c.in-Ok-None.ensures tasks are.written)) in
    subst (λ (q : AskedQuestion). IsOfflineRefusal q.events q.bound TooLong) c.self.view_is
    (subst IsWellFormed same c.len-length.ensures.well_formed, too_long s bound _ tasks _ are (c.len-length.ensures.length ∙ ap length same) over c.in_ok-parts.ensures.1)
