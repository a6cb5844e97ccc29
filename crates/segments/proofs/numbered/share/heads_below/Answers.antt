use Rattle.std.proofs.lemmas.Result.{IfOk-from_err}
use Rattle.std.proofs.Common.{arith}
use Rattle.segments.proofs.numbered.share.heads_below.Goals as goal

pub returns-in_err-below : goal.returns-in_err-below
returns-in_err-below c = record { len = IfOk-from_err c.from_residual.result _ c.from_residual.ensures.0; heads = IfOk-from_err c.from_residual.result _ c.from_residual.ensures.0 }

pub returns-in_err-push : goal.returns-in_err-push
returns-in_err-push c = record {
  len = IfOk-from_err c.from_residual-in_err-push.result _ c.from_residual-in_err-push.ensures.0;
  heads = IfOk-from_err c.from_residual-in_err-push.result _ c.from_residual-in_err-push.ensures.0;
}

pub returns-clause-len : goal.returns-clause-len
returns-clause-len c = omega (arith, c.loop-number.invariant.len, c.loop-number-test.false, c.loop-number.auto.number-end)

pub returns-clause-heads : goal.returns-clause-heads
returns-clause-heads c m l = c.loop-number.invariant.so_far m (omega (arith, l, c.loop-number-test.false))
