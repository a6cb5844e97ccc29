use Rattle.std.proofs.Common.{sym, ap, subst, ◌∙◌}
use Rattle.std.proofs.lemmas.Option.{same_Some}
use Rattle.std.specs.Global.{Box}
use Rattle.findings.specs.Analyses.{AreTraceRequirements}
use Rattle.sp_closure.specs.declared.scratch.ClosureScratch.{ClosureScratch}
use Rattle.sp_closure.specs.Scratches.{IsScratch}
use Rattle.findings.proofs.rows.row_by.Goals.{then-is_none+in_ok-new+in_ok-new-2+in-Some-1, then-is_none+in_ok-new+in_ok-new-2+in-None-1, else-is_none}
use Rattle.findings.proofs.rows.row_by.Goals as goal

pub row_of-requires-clause-scratch : goal.row_of-requires-clause-scratch
row_of-requires-clause-scratch c =
    let is = IsScratch c.args.snapshot.now c.in-Some.requirements in
    let own = c.in-Some-scratch.own in
    let known = subst (AreTraceRequirements c.args.snapshot.now c.args._bound) c.in-Some.is c.requires.tables.requirements in
    subst is (sym c.deref_mut.ensures.value) (elim c.if-is_none.branch [
      | then-is_none+in_ok-new+in_ok-new-2+in-Some-1 w ↦ subst is (sym w.in_ok-new-2.ensures.ok ∙ ap (λ (b : Box ClosureScratch). b.value) (same_Some w.in_ok-new-2.field-0 own (sym w.scratch-is ∙ c.in-Some-scratch.is))) (w.in_ok-new.ensures.scratch c.args.snapshot.now known)
      | then-is_none+in_ok-new+in_ok-new-2+in-None-1 w ↦ subst is (sym w.in_ok-new-2.ensures.ok ∙ ap (λ (b : Box ClosureScratch). b.value) (same_Some w.in_ok-new-2.field-0 own (sym w.scratch-is ∙ c.in-Some-scratch.is))) (w.in_ok-new.ensures.scratch c.args.snapshot.now known)
      | else-is_none w ↦ c.requires.scratch own (sym w.scratch-is ∙ c.in-Some-scratch.is) c.in-Some.requirements c.in-Some.is
    ])
