use Rattle.std.proofs.Common.{◌≡◌, ◌<◌, ◌∙◌, Bor, List, [], ℕ, ap, decimal, get_or, length, sym, subst}
use Rattle.std.proofs.lemmas.List.{get_or-map, length-map}
use Rattle.commands.proofs.explain_command.numbers_of.Goals as goal

pub returns-in_default : goal.returns-in_default
returns-in_default c numbers are =
    let shown : Bor (List ℕ) → List ℕ = λ word. word.now in
    let words = c.args.words.now in
    let i = c.loop-word.word-index in
    let n = get_or numbers i 0 in
    let long = sym (length-map numbers decimal) ∙ ap length are.1 ∙ length-map words shown in
    let within : i < length numbers = subst (λ k. i < k) (sym long) c.loop-word-test.true in
    let none : Bor (List ℕ) = record { ref_ptr = (0, 0); now = [] } in
    let same : (get_or words i none).now ≡ decimal n = sym (get_or-map shown words i none [] c.loop-word-test.true) ∙ ap (λ (l : List (List ℕ)). get_or l i []) (sym are.1) ∙ get_or-map decimal numbers i 0 [] within in
    c.in_default.not-Some n (c.parse_number.ensures.complete n (are.0 i 0 within) same)
