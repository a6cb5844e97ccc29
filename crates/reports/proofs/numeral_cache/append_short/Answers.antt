use Rattle.std.proofs.Common.{◌≡◌, ◌++◌, ◌∷◌, [], List, ℕ, Result, Ok, Err, if◌then◌else◌, is_ok, decimal, sym, ap, ◌∙◌, arith}
use Rattle.std.specs.Prelude.{OnOk}
use Rattle.std.proofs.lemmas.Fmt.{decimal_digit}
use Rattle.reports.proofs.Digits.{four_digits, three_digits, two_digits}
use Rattle.reports.proofs.numeral_cache.append_short.Goals as goal

appended : {E : Type 0} (r : Result (Unit {0}) E) (old new bytes numeral : List ℕ) → new ≡ (if is_ok r then old ++ bytes else old) → numeral ≡ bytes → OnOk r (new ≡ old ++ numeral)
appended (Ok _) old new bytes numeral is same = is ∙ ap (λ l. old ++ l) (sym same)
appended (Err _) old new bytes numeral is same = tt

pub returns-then-number-lt10 : goal.returns-then-number-lt10
returns-then-number-lt10 c =
    let n = c.args.number in
    appended c.extend_from_slice.result c.args.text.now.items c.extend_from_slice.new.self.items (c.last_digit-ones.result ∷ []) (decimal n) c.extend_from_slice.ensures.items
    (decimal_digit n c.if-number-lt10.true ∙ ap (λ d. d ∷ []) (omega (arith, c.last_digit-ones.ensures, c.if-number-lt10.true)))

pub returns-then-number-lt100 : goal.returns-then-number-lt100
returns-then-number-lt100 c =
    let n = c.args.number in
    appended c.extend_from_slice-then-number-lt100.result c.args.text.now.items c.extend_from_slice-then-number-lt100.new.self.items _ (decimal n) c.extend_from_slice-then-number-lt100.ensures.items
    (two_digits n c.if-number-lt10.false c.if-number-lt100.true ∙ (λ i. sym c.last_digit-tens.ensures i ∷ sym c.last_digit-ones.ensures i ∷ []))

pub returns-then-number-lt1000 : goal.returns-then-number-lt1000
returns-then-number-lt1000 c =
    let n = c.args.number in
    appended c.extend_from_slice-then-number-lt1000.result c.args.text.now.items c.extend_from_slice-then-number-lt1000.new.self.items _ (decimal n) c.extend_from_slice-then-number-lt1000.ensures.items
    (three_digits n c.if-number-lt100.false c.if-number-lt1000.true ∙ (λ i. sym c.last_digit-hundreds.ensures i ∷ sym c.last_digit-tens.ensures i ∷ sym c.last_digit-ones.ensures i ∷ []))

pub returns : goal.returns
returns c =
    let n = c.args.number in
    appended c.extend_from_slice-2.result c.args.text.now.items c.extend_from_slice-2.new.self.items _ (decimal n) c.extend_from_slice-2.ensures.items
    (four_digits n c.if-number-lt1000.false c.requires ∙ (λ i. sym c.last_digit-thousands.ensures i ∷ sym c.last_digit-hundreds.ensures i ∷ sym c.last_digit-tens.ensures i ∷ sym c.last_digit-ones.ensures i ∷ []))
