use Rattle.std.proofs.Common.{◌≤◌, ◌++◌, refl, sym, ap, subst, ◌∙◌, arith}
use Rattle.std.proofs.lemmas.Grind.{common_steps}
use Rattle.std.proofs.lemmas.Result.{IfOk-from_err}
use Rattle.segments.specs.Parts.{sealed_items}
use Rattle.segments.proofs.seal.Goals as goal

pub returns-clause-same : goal.returns-clause-same
returns-clause-same g c = grind (arith, common_steps)

pub returns-in_err-next-clause-ok : goal.returns-in_err-next-clause-ok
returns-in_err-next-clause-ok g c = IfOk-from_err c.from_residual.result _ c.from_residual.ensures.0

pub returns-in_err-reserve-clause-ok : goal.returns-in_err-reserve-clause-ok
returns-in_err-reserve-clause-ok g c = IfOk-from_err c.from_residual-in_err-reserve.result _ c.from_residual-in_err-reserve.ensures.0

pub returns-in_err-next-clause-same : goal.returns-in_err-next-clause-same
returns-in_err-next-clause-same g c = refl

pub returns-in_err-next-clause-few : goal.returns-in_err-next-clause-few
returns-in_err-next-clause-few g c = omega (arith, c.requires)

pub returns-in_err-reserve-clause-same : goal.returns-in_err-reserve-clause-same
returns-in_err-reserve-clause-same g c = ap (λ xs. sealed_items xs ++ c.args.tail.now.items) c.reserve.ensures.items

pub returns-in_err-reserve-clause-few : goal.returns-in_err-reserve-clause-few
returns-in_err-reserve-clause-few g c = omega (arith, c.requires)

pub returns-in-Err-clause-ok : goal.returns-in-Err-clause-ok
returns-in-Err-clause-ok g c = tt

pub returns-in-Err-clause-same : goal.returns-in-Err-clause-same
returns-in-Err-clause-same g c =
    let back = ap (λ v. v.items.items) c.in-Err.ensures.value_returned ∙ ap (λ v. v.items) c.replace-full.ensures.value in
    λ i. sealed_items (c.reserve.ensures.items i) ++ back i

pub returns-in-Err-clause-few : goal.returns-in-Err-clause-few
returns-in-Err-clause-few g c =
    let back = ap (λ v. v.items.len) c.in-Err.ensures.value_returned ∙ ap (λ v. v.len) c.replace-full.ensures.value in
    subst (λ n. n ≤ 4096) (sym back) (omega (arith, c.requires))
