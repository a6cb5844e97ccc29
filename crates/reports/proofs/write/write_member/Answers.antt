use Rattle.std.proofs.Common.{arith}
use Rattle.std.proofs.lemmas.Grind.{common_steps}
use Rattle.reports.proofs.write.write_member.Goals as goal

pub returns : goal.returns
returns g c = grind (arith, common_steps)

pub returns-in_err-put : goal.returns-in_err-put
returns-in_err-put g c = grind (arith, common_steps)

pub returns-in_err-put_number : goal.returns-in_err-put_number
returns-in_err-put_number g c = grind (arith, common_steps)

pub returns-in_err-put_number-2 : goal.returns-in_err-put_number-2
returns-in_err-put_number-2 g c = grind (arith, common_steps)
