use Rattle.std.proofs.Common.{◌-◌, ◌*◌, ◌≤◌, arith}
use Rattle.std.proofs.lemmas.Nat.{mul-le}
use Rattle.reports.proofs.Digits.{digits_short}
use Rattle.reports.proofs.Runs.{run_longer}
use Rattle.reports.proofs.run_measure.RunMeasure.run.Goals as goal
use Rattle.reports.proofs.run_measure.RunMeasure.run.Goals.{After-struct_known-1}

-- The length of the numbers of one decade.
few : (c : After-struct_known-1) → (c.min-past.result - c.loop-next.next) * c.with-decade.result.width ≤ (c.min-past.result - c.loop-next.next) * 21
few c =
    let wide = c.with-decade.ensures.decade c.loop-next.next c.with-decade.ensures.within.0 c.with-decade.ensures.within.1 in
    let short = digits_short c.loop-next.next (omega arith) in
    mul-le _ _ _ _ (omega arith) (omega (arith, wide, short))

pub overflow_mul-bytes : goal.overflow_mul-bytes
overflow_mul-bytes c = omega (arith, few c)

pub overflow_add-bytes : goal.overflow_add-bytes
overflow_add-bytes c = omega (arith, few c)

pub loop-next-preserved : goal.loop-next-preserved
loop-next-preserved c =
    let now = c.loop-next.invariant in
    let next = c.loop-next.next in
    let past = c.min-past.result in
    record {
      decade = c.with-decade.ensures.decade;
      first = omega arith;
      end = omega arith;
      bytes =
          run_longer c.args.first next past c.with-decade.result.width c.loop-next.bytes now.first (omega (arith, c.with-decade.ensures.within.1)) now.bytes
          (λ x below above. c.with-decade.ensures.decade x (omega (arith, c.with-decade.ensures.within.0)) (omega arith));
      few = omega (arith, few c, now.few);
    }
