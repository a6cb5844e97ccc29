use Rattle.std.proofs.Common.{◌++◌, ◌∷◌, [], sym, ap, ◌∙◌, arith, ◌≡◌, take}
use Rattle.std.proofs.lemmas.Result.{IfOk-from_err}
use Rattle.segments.proofs.Lists.{take_one_more}
use Rattle.segments.proofs.numbered.share.copy_notes.Goals as goal

pub loop-index-preserved : goal.loop-index-preserved
loop-index-preserved c =
    let t = c.loop-index-test.true in
    record {
      so_far = c.put.ensures ∙ ap (λ xs. xs ++ c.in-Some.note ∷ []) (c.in_ok-reserve.ensures.shown ∙ c.loop-index.invariant.so_far)
          ∙ sym (take_one_more c.args.all.now.0 c.loop-index.index c.in-Some.note c.in-Some.ensures);
      within = omega arith;
    }

pub returns-in_err-part : goal.returns-in_err-part
returns-in_err-part c = IfOk-from_err c.from_residual.result _ c.from_residual.ensures.0

pub returns-in_err-reserve : goal.returns-in_err-reserve
returns-in_err-reserve c = IfOk-from_err c.from_residual-in_err-reserve.result _ c.from_residual-in_err-reserve.ensures.0

pub returns : goal.returns
returns c =
    let all : c.loop-index.index ≡ c.args.count = omega (arith, c.loop-index-test.false, c.loop-index.invariant.within) in
    c.loop-index.invariant.so_far ∙ ap (λ n. take n c.args.all.now.0) all
