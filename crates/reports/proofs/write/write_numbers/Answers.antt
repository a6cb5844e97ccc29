use Rattle.std.proofs.Common.{◌++◌, codes, decimal, ap, arith}
use Rattle.std.proofs.lemmas.Grind.{common_steps}
use Rattle.reports.proofs.Sinks.{lacks_one}
use Rattle.reports.proofs.write.write_numbers.Goals as goal

pub returns-in_err-put_number : goal.returns-in_err-put_number
returns-in_err-put_number g c =
    lacks_one g.T.Sink.room _ _ _ (λ n. codes " " ++ decimal n) c.args.numbers.now c.loop-number.number-index 0 _ c.from_residual.result c.from_residual.ensures.0
    c.loop-number-test.true (ap (λ n. codes " " ++ decimal n) c.from.ensures) c.loop-number.invariant c.in_err-put_number.ensures

pub loop-number-preserved : goal.loop-number-preserved
loop-number-preserved g c = grind (arith, common_steps)

pub returns : goal.returns
returns g c = grind (arith, common_steps)
