use Rattle.std.proofs.Common.{◌≡◌, ◌<◌, get_or, length, sym, ◌∙◌, arith}
use Rattle.std.specs.Char.{digit_value}
use Rattle.std.proofs.lemmas.Bool.Decides.{nat_tests}
use Rattle.std.proofs.lemmas.Int.Digits.{digits_more, digits_value_more}
use Rattle.event_files.proofs.LeadingDigits.{all_counted, ends_at_other, few_digits}
use Rattle.event_files.proofs.numbered_text.digits_in.Goals as goal

pub overflow_mul-value : goal.overflow_mul-value
overflow_mul-value c =
    omega (arith, c.loop-count.invariant.value, c.loop-count-test.true, c.min-most.ensures, few_digits c.args.text.now c.loop-count.count (omega (arith, c.loop-count-test.true, c.min-most.ensures)) c.loop-count.invariant.digits)

pub overflow_add-value : goal.overflow_add-value
overflow_add-value c =
    let digit : c.from.result < 10 = grind (arith, nat_tests) in
    omega (arith, digit, c.loop-count.invariant.value, c.loop-count-test.true, c.min-most.ensures, few_digits c.args.text.now c.loop-count.count (omega (arith, c.loop-count-test.true, c.min-most.ensures)) c.loop-count.invariant.digits)

pub loop-count-preserved : goal.loop-count-preserved
loop-count-preserved c =
    let text = c.args.text.now in
    let i = c.loop-count.count in
    let within : i < length text = omega (arith, c.loop-count-test.true, c.min-most.ensures) in
    let digit : digit_value (get_or text i 0) ≡ c.from.result = grind (arith, nat_tests) in
    let below : digit_value (get_or text i 0) < 10 = grind (arith, nat_tests) in
    record {
      few = omega (arith, c.loop-count-test.true);
      digits = digits_more 10 text i within c.loop-count.invariant.digits below;
      value = omega (arith, digit, digits_value_more 10 text i within, c.loop-count.invariant.value);
    }

pub returns-else-is_ascii_digit-clause-count : goal.returns-else-is_ascii_digit-clause-count
returns-else-is_ascii_digit-clause-count c =
    let text = c.args.text.now in
    let i = c.loop-count.count in
    let within : i < length text = omega (arith, c.loop-count-test.true, c.min-most.ensures) in
    let ends = ends_at_other text i within c.loop-count.invariant.digits (sym c.is_ascii_digit.ensures.value ∙ c.if-is_ascii_digit.false) in
    omega (arith, ends, c.loop-count-test.true, c.min-most.ensures)

pub returns-after-loop-count-clause-count : goal.returns-after-loop-count-clause-count
returns-after-loop-count-clause-count c =
    all_counted c.args.text.now c.loop-count.count c.min-most.result c.min-most.ensures c.loop-count.invariant.few c.loop-count-test.false c.loop-count.invariant.digits
