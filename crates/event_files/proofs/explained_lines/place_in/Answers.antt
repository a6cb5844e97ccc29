use Rattle.std.proofs.Common.{◌≡◌, [], length, refl, ap, arith}
use Rattle.std.proofs.lemmas.Bool.Decides.{nat_tests}
use Rattle.event_files.proofs.ExplainedTexts.{no_place}
use Rattle.event_files.proofs.explained_lines.place_in.Goals as goal

pub returns-in_err-index-clause-complete : goal.returns-in_err-index-clause-complete
returns-in_err-index-clause-complete c = λ place small is.
    let full : length c.args.text.now ≡ 0 → ⊥ = λ empty. grind (arith, nat_tests) in
    absurd (no_place place c.args.text.now small is full (λ p ps e. c.in_err-index.ensures.complete p [] ps refl e))

pub returns-else-is_empty-2-clause-complete : goal.returns-else-is_empty-2-clause-complete
returns-else-is_empty-2-clause-complete c = λ place small is.
    let full : length c.args.text.now ≡ 0 → ⊥ = λ empty. grind (arith, nat_tests) in
    let more : length c.in_ok-index.rest.now ≡ 0 → ⊥ = λ empty. grind (arith, nat_tests) in
    absurd (no_place place c.args.text.now small is full (λ p ps e. more (ap length (c.in_ok-index.ensures.complete p [] ps refl e).1)))
