use Rattle.std.proofs.Common.{inl, inr, Some, sym, ap, subst, ◌∙◌}
use Rattle.std.specs.List.{Contains}
use Rattle.trace_model.specs.declared.refutations.Reason.{Reason}
use Rattle.explain.specs.DerivationSearch.{derived_by}
use Rattle.explain.specs.Needed.{Names}
use Rattle.explain.proofs.extract.mark_named.Goals as goal

pub returns-in-Sections-clause-marked : goal.returns-in-Sections-clause-marked
returns-in-Sections-clause-marked c has sized q names derived =
    let places = derived_by c.args.search.now in
    let e = c.mark-in-Sections.ensures in
    let f = c.mark-in-Sections-2.ensures in
    elim (subst (λ (r : Reason). Names r q) c.in-Sections.is names) [
      | inl first ↦
          let (j, at, mark) = e.marked has (subst (Contains places) (sym first) derived) sized in
          (j, at ∙ ap Some first, f.kept j mark)
      | inr second ↦
          let (j, at, mark) = f.marked has (subst (Contains places) (sym second) derived) (e.sized ∙ sized) in
          (j, at ∙ ap Some second, mark)
    ]
