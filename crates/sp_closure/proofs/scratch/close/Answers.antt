use Rattle.std.proofs.Common.{arith}
use Rattle.std.proofs.lemmas.Result.{IfOk-from_err}
use Rattle.sp_closure.proofs.scratch.close.Goals as goal

pub returns-in_err-requirements : goal.returns-in_err-requirements
returns-in_err-requirements g c = record {
  closure = IfOk-from_err c.from_residual.result _ c.from_residual.ensures.0;
  counted = IfOk-from_err c.from_residual.result _ c.from_residual.ensures.0;
  at_most = omega arith;
}

pub returns-in_err-none : goal.returns-in_err-none
returns-in_err-none g c = record {
  closure = IfOk-from_err c.from_residual-in_err-none.result _ c.from_residual-in_err-none.ensures.0;
  counted = IfOk-from_err c.from_residual-in_err-none.result _ c.from_residual-in_err-none.ensures.0;
  at_most = omega arith;
}

pub returns-in_err-propagation : goal.returns-in_err-propagation
returns-in_err-propagation g c = record {
  closure = IfOk-from_err c.from_residual-in_err-propagation.result _ c.from_residual-in_err-propagation.ensures.0;
  counted = IfOk-from_err c.from_residual-in_err-propagation.result _ c.from_residual-in_err-propagation.ensures.0;
  at_most = omega arith;
}

pub returns : goal.returns
returns g c = record {
  closure = c.close_over.ensures.closure;
  counted = c.close_over.ensures.counted;
  at_most = c.close_over.ensures.at_most;
}
