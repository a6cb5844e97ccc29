use Rattle.std.proofs.Common.{lit<, ◌≡◌, ◌++◌, List, ℕ, codes, Some, refl, ◌∙◌}
use Rattle.std.proofs.lemmas.Option.{none-some, some_pair_parts}
use Rattle.event_files.specs.Refutations.{label_and_number, reason_line}
use Rattle.trace_model.specs.declared.refutations.Reason.TheVariants.{Sections}
use Rattle.event_files.proofs.ExplainedTexts.{split_two}
use Rattle.event_files.proofs.explained_lines.sections_in.Goals as goal

abbrev last_two : ℕ → ℕ → List ℕ
last_two second place =
    label_and_number (codes " and ") second ++ label_and_number (codes " acquire one lock: place ") place ++ codes " releases it between them"

apart : (first second place : ℕ) (text : List ℕ) → text ≡ reason_line (Sections first second) place → text ≡ label_and_number (codes "  places ") first ++ last_two second place
apart first second place text is =
    is ∙ split_two (label_and_number (codes "  places ") first) (label_and_number (codes " and ") second) (label_and_number (codes " acquire one lock: place ") place) (codes " releases it between them")

pub returns-in_err-second-clause-complete : goal.returns-in_err-second-clause-complete
returns-in_err-second-clause-complete c = λ first second place small is.
    let one = c.in_ok-first.ensures.complete first (last_two second place) (small 0 0 (lit< tt)) refl (apart first second place c.args.text.now is) in
    absurd (none-some _ (c.in_err-second.ensures.complete second place (small 1 0 (lit< tt)) (small 2 0 (lit< tt)) refl refl one.1))

pub returns-clause-complete : goal.returns-clause-complete
returns-clause-complete c = λ first second place small is.
    let one = c.in_ok-first.ensures.complete first (last_two second place) (small 0 0 (lit< tt)) refl (apart first second place c.args.text.now is) in
    let two = some_pair_parts _ _ _ _ (c.in_ok-second.ensures.complete second place (small 1 0 (lit< tt)) (small 2 0 (lit< tt)) refl refl one.1) in
    λ i. Some (one.0 i, two.0 i, two.1 i)
