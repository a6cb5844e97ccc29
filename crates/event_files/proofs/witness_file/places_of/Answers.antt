use Rattle.std.proofs.Common.{◌≡◌, ℕ, List, [], Bor, Some, get_or, map, ap, ◌∙◌}
use Rattle.std.proofs.lemmas.Option.{slice_get-get_or, slice_get-map}
use Rattle.std.specs.Prelude.{option_map, slice_get}
use Rattle.event_files.proofs.WitnessLines.{numeral_at}
use Rattle.event_files.proofs.witness_file.places_of.Goals as goal

pub returns-in_default : goal.returns-in_default
returns-in_default c = λ numbers are.
    let shown : Bor (List ℕ) → List ℕ = λ word. word.now in
    let words = c.args.words.now in
    let i = c.loop-word.word-index in
    let none : Bor (List ℕ) = record { ref_ptr = (0, 0); now = [] } in
    let here = (get_or words i none).now in
    let at : slice_get (map shown words) i ≡ Some here = slice_get-map shown words i ∙ ap (option_map shown) (slice_get-get_or words i none c.loop-word-test.true) in
    let numeral = numeral_at numbers (map shown words) i here are at in
    c.in_default.not-Some numeral.0 (c.parse_number.ensures.complete numeral.0 numeral.1 numeral.2)
