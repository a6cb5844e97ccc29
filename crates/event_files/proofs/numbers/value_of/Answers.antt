use Rattle.std.proofs.Common.{◌≡◌, ◌<◌, IfNone, get_or, sym, subst, ◌∙◌, arith, IfSome}
use Rattle.std.specs.Char.{digit_value}
use Rattle.std.proofs.lemmas.Bool.Decides.{nat_tests}
use Rattle.std.proofs.lemmas.Int.Digits.{digits_more, digits_value_more}
use Rattle.event_files.specs.Numbers.{IsTooLarge, IsValueOf}
use Rattle.event_files.proofs.Numerals.{no_other_byte, beginning_is_no_more}
use Rattle.event_files.proofs.numbers.value_of.Goals as goal

pub returns-then-not-is_ascii_digit-clause-none : goal.returns-then-not-is_ascii_digit-clause-none
returns-then-not-is_ascii_digit-clause-none c = λ all.
    absurd (no_other_byte c.args.digits.now c.loop-digit.digit-index c.loop-digit-test.true (sym c.is_ascii_digit.ensures.value ∙ c.if-not-is_ascii_digit.true) all)

pub returns-in_err-checked_mul-clause-none : goal.returns-in_err-checked_mul-clause-none
returns-in_err-checked_mul-clause-none c =
    let large = beginning_is_no_more c.args.digits.now c.loop-digit.digit-index c.loop-digit-test.true in
    subst (λ outcome. IfNone outcome (IsTooLarge c.args.digits.now)) (sym c.from_residual.ensures)
    (λ all. omega (arith, large, c.loop-digit.invariant.0.1, c.in_err-checked_mul.ensures))

pub returns-in_err-value-clause-none : goal.returns-in_err-value-clause-none
returns-in_err-value-clause-none c =
    let digit : digit_value (get_or c.args.digits.now c.loop-digit.digit-index 0) ≡ c.from.result = grind (arith, nat_tests) in
    let large = beginning_is_no_more c.args.digits.now c.loop-digit.digit-index c.loop-digit-test.true in
    subst (λ outcome. IfNone outcome (IsTooLarge c.args.digits.now)) (sym c.from_residual-in_err-value.ensures)
    (λ all. omega (arith, large, digit, c.loop-digit.invariant.0.1, c.in_ok-checked_mul.ensures.1, c.in_err-value.ensures))

pub loop-digit-preserved : goal.loop-digit-preserved
loop-digit-preserved c =
    let text = c.args.digits.now in
    let i = c.loop-digit.digit-index in
    let digit : digit_value (get_or text i 0) ≡ c.from.result = grind (arith, nat_tests) in
    let below : digit_value (get_or text i 0) < 10 = grind (arith, nat_tests) in (
      (
        digits_more 10 text i c.loop-digit-test.true c.loop-digit.invariant.0.0 below,
        omega (arith, digit, digits_value_more 10 text i c.loop-digit-test.true, c.loop-digit.invariant.0.1, c.in_ok-checked_mul.ensures.1, c.in_ok-value.ensures.1),
      ),
      omega (arith, c.in_ok-value.ensures.0, c.in_ok-value.ensures.1),
    )

pub returns-in_err-checked_mul-clause-some : goal.returns-in_err-checked_mul-clause-some
returns-in_err-checked_mul-clause-some c = subst (λ outcome. IfSome outcome (IsValueOf c.args.digits.now)) (sym c.from_residual.ensures) tt

pub returns-in_err-value-clause-some : goal.returns-in_err-value-clause-some
returns-in_err-value-clause-some c = subst (λ outcome. IfSome outcome (IsValueOf c.args.digits.now)) (sym c.from_residual-in_err-value.ensures) tt
