use Rattle.std.proofs.Common.{arith, ◌≡◌, take, ap, ◌∙◌}
use Rattle.std.proofs.lemmas.Grind.{common_steps}
use Rattle.std.proofs.lemmas.Result.{IfOk-from_err}
use Rattle.segments.specs.Parts.{sealed_items}
use Rattle.segments.proofs.share.Goals as goal

pub loop-index-preserved : goal.loop-index-preserved
loop-index-preserved g c = grind (arith, common_steps)

pub returns-in_err-shared : goal.returns-in_err-shared
returns-in_err-shared g c = IfOk-from_err c.from_residual.result _ c.from_residual.ensures.0

pub returns-in_err-same : goal.returns-in_err-same
returns-in_err-same g c = IfOk-from_err c.from_residual-in_err-same.result _ c.from_residual-in_err-same.ensures.0

pub returns-in_err-push : goal.returns-in_err-push
returns-in_err-push g c = IfOk-from_err c.from_residual-in_err-push.result _ c.from_residual-in_err-push.ensures.0

pub returns : goal.returns
returns g c =
    let all : c.loop-index.index ≡ c.args.count = omega (arith, c.loop-index-test.false, c.loop-index.auto.index-end) in
    c.loop-index.invariant ∙ ap (λ n. sealed_items (take n c.args.sealed.now)) all
