use Rattle.std.proofs.Common.{◌≡◌, ℕ, List, Bor, true, false, length, map, ap, arith}
use Rattle.std.specs.Prelude.{is_some}
use Rattle.std.proofs.lemmas.Option.{MatchOption-at_none}
use Rattle.std.proofs.lemmas.Bool.Decides.{nat_tests}
use Rattle.event_files.specs.WitnessFile.{list_places}
use Rattle.event_files.proofs.WitnessLines.{have_words, is_none, is_there, no_order_next}
use Rattle.event_files.proofs.witness_file.read_words.Goals as goal

pub returns-then-is_none-2-clause-wrong : goal.returns-then-is_none-2-clause-wrong
returns-then-is_none-2-clause-wrong c = λ is.
    let shown : Bor (List ℕ) → List ℕ = λ word. word.now in
    let is_absent : is_some c.in_ok-order.field-0 ≡ false = grind arith in
    let never = MatchOption-at_none _ _ (is_none c.in_ok-order.field-0 is_absent) c.in_ok-order.ensures in
    let words : length c.args.words.now ≡ 0 → ⊥ = λ e. grind (arith, nat_tests) in
    let instance : is_some c.args.instance.now ≡ true = grind arith in
    let order : is_some c.args.order.now ≡ false = grind arith in
    no_order_next (map shown c.args.words.now) c.args.instance.now (list_places c.args.order.now) (have_words shown c.args.words.now words) (is_there c.args.instance.now instance)
    (ap list_places (is_none c.args.order.now order)) never
