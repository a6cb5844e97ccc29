use Rattle.std.proofs.Common.{◌≡◌, ◌+◌, ◌-◌, ◌<◌, ◌∷◌, [], ◌++◌, ℕ, List, decimal, get_or, length, take, sym, ap, ◌∙◌, arith}
use Rattle.std.proofs.lemmas.List.{take_all, take_more}
use Rattle.reports.proofs.Digits.{next_digits}
use Rattle.reports.proofs.numeral_cache.Numeral.advance.Goals as goal

-- a text is its front and its last byte
last_of : (text front : List ℕ) (count digit : ℕ) → 0 < length text → count ≡ length text → front ≡ take (length text - 1) text → digit ≡ get_or text (count - 1) 0 → text ≡ front ++ digit ∷ []
last_of text front count digit some all begins is =
    sym (take_all (length text - 1 + 1) text (omega arith)) ∙ take_more text (length text - 1) 0 (omega (arith, some))
    ∙ (λ i. sym begins i ++ (ap (λ k. get_or text (k - 1) 0) (sym all) ∙ sym is) i ∷ [])

pub invariant_of-self : goal.invariant_of-self
invariant_of-self c =
    let text = c.args.self.now.text.items in
    let front = c.pop.new.self.items in
    let n = c.args.self.now.number in
    let some : 0 < length text = omega (arith, ap length c.args.self.now.is) in
    let digit = get_or c.as_slice.result.now (c.len.result - 1) 0 in
    let split = sym c.args.self.now.is ∙ last_of text front c.len.result digit some c.len.ensures.value c.pop.ensures.rest (ap (λ l. get_or l (c.len.result - 1) 0) c.as_slice.ensures.value) in
    record { is = c.push.ensures.items ∙ next_digits (32 ∷ []) front digit n split c.if-digit-lt57.true c.requires }
