use Rattle.std.proofs.Common.{◌≡◌, [], length, codes, refl, sym, ap, ◌∙◌, arith}
use Rattle.std.proofs.lemmas.Bool.Decides.{nat_tests}
use Rattle.std.proofs.lemmas.List.{append-nil, append_cancel_left}
use Rattle.event_files.specs.NumberedText.{after_spaces}
use Rattle.event_files.proofs.explained_lines.places_in.Goals as goal

pub returns-then-not-is_empty-clause-complete : goal.returns-then-not-is_empty-clause-complete
returns-then-not-is_empty-clause-complete c = λ order small is.
    let more : length c.in_ok-numbers.rest.now ≡ 0 → ⊥ = λ empty. grind (arith, nat_tests) in
    let rest = append_cancel_left (codes "  witness") c.in-Some.rest.now (after_spaces order) (sym c.in-Some.ensures ∙ is) in
    absurd (more (ap length (c.in_ok-numbers.ensures.complete order [] small refl (rest ∙ sym (append-nil (after_spaces order)))).1))
