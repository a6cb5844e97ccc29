use Rattle.std.proofs.Common.{◌<◌, length, get_or, Some, sym, ap, subst, ◌∙◌, arith}
use Rattle.std.specs.Prelude.{IfSome, IfNone}
use Rattle.std.proofs.lemmas.Bool.Decides.{nat_tests}
use Rattle.std.proofs.lemmas.Fmt.{decimal_nonempty}
use Rattle.event_files.specs.Numbers.{IsValueOf, IsTooLarge}
use Rattle.event_files.proofs.Numerals.{zero_is, zero_alone, text_of_its_value, value_of_its_text}
use Rattle.event_files.proofs.numbers.parse_number.Goals as goal

pub returns-then-is_empty-clause-complete : goal.returns-then-is_empty-clause-complete
returns-then-is_empty-clause-complete c = λ n small is.
    let some = subst (λ text. 0 < length text) (sym is) (decimal_nonempty n (omega arith)) in
    absurd (grind (arith, nat_tests))

pub returns-then-digits-eq1-clause-sound : goal.returns-then-digits-eq1-clause-sound
returns-then-digits-eq1-clause-sound c = zero_is c.args.digits.now c.if-digits-eq48.true c.if-digits-eq1.true

pub returns-then-digits-eq1-clause-complete : goal.returns-then-digits-eq1-clause-complete
returns-then-digits-eq1-clause-complete c = λ n small is.
    ap Some (sym (zero_alone n small (ap (λ text. get_or text 0 0) (sym is) ∙ c.if-digits-eq48.true)).0)

pub returns-else-digits-eq1-clause-complete : goal.returns-else-digits-eq1-clause-complete
returns-else-digits-eq1-clause-complete c = λ n small is.
    let alone = zero_alone n small (ap (λ text. get_or text 0 0) (sym is) ∙ c.if-digits-eq48.true) in
    absurd (c.if-digits-eq1.false (ap length is ∙ alone.1))

pub returns-clause-sound : goal.returns-clause-sound
returns-clause-sound c =
    text_of_its_value c.value_of.result c.args.digits.now c.value_of.ensures.some (grind (arith, nat_tests)) c.if-digits-eq48.false

pub returns-clause-complete : goal.returns-clause-complete
returns-clause-complete c = λ n small is.
    value_of_its_text c.value_of.result n small
    (subst (λ text. IfSome c.value_of.result (IsValueOf text)) is c.value_of.ensures.some)
    (subst (λ text. IfNone c.value_of.result (IsTooLarge text)) is c.value_of.ensures.none)
