use Rattle.std.proofs.Common.{arith}
use Rattle.std.proofs.lemmas.Result.{IfOk-from_err}
use Rattle.trace_index.proofs.share.share_rows.Goals as goal

pub copy_rows-requires : goal.copy_rows-requires
copy_rows-requires g c = record { part = c.in_ok-part.ensures; within = c.requires.within; short = c.requires.short }

pub returns-in_err-part : goal.returns-in_err-part
returns-in_err-part g c = record { rows = IfOk-from_err c.from_residual.result _ c.from_residual.ensures.0; copies = omega arith }

pub returns-in_err-copy_rows : goal.returns-in_err-copy_rows
returns-in_err-copy_rows g c = record {
  rows = IfOk-from_err c.from_residual-in_err-copy_rows.result _ c.from_residual-in_err-copy_rows.ensures.0;
  copies = c.in_err-copy_rows.ensures.copies;
}

pub returns : goal.returns
returns g c = record { rows = c.in_ok-copy_rows.ensures.ok; copies = c.in_ok-copy_rows.ensures.copies }
