use Rattle.std.proofs.Common.{◌<◌, ◌∙◌, List, ap, length, map, subst, sym}
use Rattle.std.specs.List.{All, AllZip}
use Rattle.std.proofs.Math.ListN.{get_or-map}
use Rattle.std.proofs.lemmas.List.{length-map}
use Rattle.trace_model.specs.Theory.Trace.{Trace}
use Rattle.dependencies.specs.Tables.{HasDependenciesOf}
use Rattle.event_files.specs.ExplainedText.{IsStatedCycle, stated_cycle}
use Rattle.event_files.specs.declared.explanations.Explained.{Explained}
use Rattle.commands.proofs.CheckedCycles.{IsLineOf, collected}
use Rattle.commands.proofs.check_verdicts.lines_on.Goals as goal

pub collect-requires-clause-ready : goal.collect-requires-clause-ready
collect-requires-clause-ready g c κs within k d lt x is =
    let all = c.map.result.base.base.slice.now in
    let same = ap (λ b. b.base.slice.now) c.map.ensures.base ∙ ap (λ b. b.slice.now) c.with_min_len.ensures.base ∙ c.into_par_iter.ensures in
    let rows = subst (λ (l : List Explained). All IsStatedCycle (map stated_cycle l)) (sym same) c.requires.rows in
    let row = subst IsStatedCycle (get_or-map stated_cycle all k d ∙ ap stated_cycle (sym is)) (rows k (stated_cycle d) (subst (λ n. k < n) (sym (length-map all stated_cycle)) lt)) in
    let table = subst (λ f. HasDependenciesOf f.2.now f.1.now (length f.1.now)) (sym c.map.ensures.f) c.requires.table in
    ((row, table), λ y post. tt)

pub returns : goal.returns
returns g c =
    let h = c.in_ok-collect.ensures in
    let chain = rw (c.map.ensures.base, c.with_min_len.ensures.base) at h.1 in
    let own = ap (λ f. f.1.now) c.map.ensures.f in
    collected c.args.checker.now c.args.cycles.now chain.0 h.0 c.in_ok-collect.field-0 (chain.1 ∙ c.into_par_iter.ensures)
    (subst (λ (s : Trace). AllZip (IsLineOf s) chain.0 h.0) own chain.2) h.2
