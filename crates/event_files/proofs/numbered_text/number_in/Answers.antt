use Rattle.std.proofs.Common.{◌≡◌, ◌≤◌, ◌++◌, decimal, get_or, sym, ◌∙◌, arith}
use Rattle.std.proofs.lemmas.Fmt.{decimal_nonempty}
use Rattle.trace_model.proofs.Lists.{take-drop_rest}
use Rattle.event_files.proofs.LeadingDigits.{first_led_by, led_by, number_of_digits, value_led_by}
use Rattle.event_files.proofs.numbered_text.number_in.Goals as goal
use Rattle.event_files.proofs.numbered_text.number_in.Goals.{else-text-eq48-via-then-text-eq48+else-count-gt1, else-text-eq48-via-else-text-eq48}

pub returns-then-count-eq0-clause-complete : goal.returns-then-count-eq0-clause-complete
returns-then-count-eq0-clause-complete c = λ n rest small stops is.
    let led = led_by c.args.text.now n rest c.digits_in-count.result.0 small stops is c.digits_in-count.ensures.count in
    absurd (omega (arith, led.1, c.if-count-eq0.true, decimal_nonempty n (omega arith)))

pub returns-then-count-gt1-clause-complete : goal.returns-then-count-gt1-clause-complete
returns-then-count-gt1-clause-complete c = λ n rest small stops is.
    let led = led_by c.args.text.now n rest c.digits_in-count.result.0 small stops is c.digits_in-count.ensures.count in
    let one = first_led_by c.args.text.now n rest small is c.if-text-eq48.true in
    absurd (omega (arith, led.1, c.if-count-gt1.true, one))

pub returns-then-value-from-clause-complete : goal.returns-then-value-from-clause-complete
returns-then-value-from-clause-complete c = λ n rest small stops is.
    let value = value_led_by c.args.text.now n rest c.digits_in-count.result.0 small stops is c.digits_in-count.ensures.count in
    absurd (omega (arith, value, c.digits_in-count.ensures.value, c.if-value-from.true, c.from.ensures, small))

pub returns-clause-sound : goal.returns-clause-sound
returns-clause-sound c =
    let text = c.args.text.now in
    let count = c.digits_in-count.result.0 in
    let first : get_or text 0 0 ≡ 48 → count ≤ 1 = elim c.else-text-eq48.branch [
      | else-text-eq48-via-then-text-eq48+else-count-gt1 w ↦ λ is. w.if-count-gt1.false
      | else-text-eq48-via-else-text-eq48 w ↦ λ is. absurd (w.if-text-eq48.false is)
    ] in
    let is = number_of_digits text count (omega (arith, c.if-count-eq0.false)) c.digits_in-count.ensures.within first c.digits_in-count.ensures.digits
    (omega (arith, c.if-value-from.false, c.from.ensures, c.digits_in-count.ensures.value)) in
    is ∙ (λ i. decimal (sym c.digits_in-count.ensures.value i) ++ sym (take-drop_rest text count) i)

pub returns-clause-complete : goal.returns-clause-complete
returns-clause-complete c = λ n rest small stops is.
    let text = c.args.text.now in
    let count = c.digits_in-count.result.0 in (
      c.digits_in-count.ensures.value ∙ value_led_by text n rest count small stops is c.digits_in-count.ensures.count,
      take-drop_rest text count ∙ (led_by text n rest count small stops is c.digits_in-count.ensures.count).0.others,
    )
