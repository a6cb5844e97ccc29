use Rattle.std.proofs.Common.{◌≡◌, ◌+◌, ◌-◌, ◌++◌, ap, ◌∙◌, arith}
use Rattle.reports.specs.Text.{run_text}
use Rattle.reports.proofs.Runs.{run_pushed}
use Rattle.reports.proofs.numeral_cache.append_run.Goals as goal

pub loop-numeral-preserved : goal.loop-numeral-preserved
loop-numeral-preserved c =
    let before = c.args.text.now.items in
    let first = c.args.first in
    let number = c.loop-numeral.numeral.number in
    let next = c.advance.ensures in
    let more : number - first + 1 ≡ c.advance.new.self.number - first = omega (arith, next, c.loop-numeral.invariant.least) in
    record {
      least = omega (arith, next, c.loop-numeral.invariant.least);
      most = omega (arith, next, c.loop-numeral-test.true);
      text =
          run_pushed before _ _ first (number - first) number (omega (arith, c.loop-numeral.invariant.least)) c.loop-numeral.invariant.text
          (c.in_ok-extend_from_slice.ensures.items ∙ ap (λ l. c.loop-numeral.text.items ++ l) (c.as_slice.ensures.value ∙ c.loop-numeral.numeral.is))
          ∙ ap (λ n. before ++ run_text first n) more;
    }
