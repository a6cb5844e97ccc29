use Rattle.std.proofs.Common.{◌≡◌, ℕ, List, Bor, map, ap}
use Rattle.event_files.proofs.WitnessLines.{after_keyword}
use Rattle.event_files.proofs.witness_file.places_after.Goals as goal

pub returns : goal.returns
returns c =
    let shown : Bor (List ℕ) → List ℕ = λ word. word.now in
    let first = c.in-Some.first.now in
    let same : first.now ≡ c.args.keyword.now = c.is_literal.ensures.0 c.if-not-is_literal.false in
    after_keyword (λ v. v.items) c.args.keyword.now first.now (map shown c.in-Some.rest.now) (map shown c.args.words.now) c.places_of.result (ap (map shown) c.in-Some.ensures.cases.0) same c.places_of.ensures
