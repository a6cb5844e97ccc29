use Rattle.std.proofs.Common.{lit<, ◌≡◌, ◌++◌, List, [], ℕ, codes, Some, refl, ◌∙◌}
use Rattle.std.proofs.lemmas.Option.{none-some, some_pair_parts}
use Rattle.event_files.specs.ExplainedText.{head_line}
use Rattle.event_files.specs.Refutations.{label_and_number}
use Rattle.event_files.specs.declared.explanations.ReportHead.{ReportHead}
use Rattle.event_files.proofs.ExplainedTexts.{split_five}
use Rattle.event_files.proofs.explained_lines.head_in.Goals as goal

-- the ends of the first line of a report
abbrev last_two : ReportHead → List ℕ
last_two h = label_and_number (codes " cycles ") h.cycles ++ label_and_number (codes " confirmed ") h.confirmed ++ []

abbrev last_three : ReportHead → List ℕ
last_three h = label_and_number (codes " bound ") h.bound ++ last_two h

abbrev last_four : ReportHead → List ℕ
last_four h = label_and_number (codes " length ") h.length ++ last_three h

apart : (h : ReportHead) (text : List ℕ) → text ≡ head_line h → text ≡ label_and_number (codes "question ") h.question ++ last_four h
apart h text is =
    is ∙ split_five (label_and_number (codes "question ") h.question) (label_and_number (codes " length ") h.length) (label_and_number (codes " bound ") h.bound) (label_and_number (codes " cycles ") h.cycles) (label_and_number (codes " confirmed ") h.confirmed)

pub returns-in_err-length-clause-complete : goal.returns-in_err-length-clause-complete
returns-in_err-length-clause-complete c = λ h small is.
    let question = c.in_ok-question.ensures.complete h.question (last_four h) (small 0 0 (lit< tt)) refl (apart h c.args.text.now is) in
    absurd (c.in_err-length.ensures.complete h.length (last_three h) (small 1 0 (lit< tt)) refl question.1)

pub returns-in_err-bound-clause-complete : goal.returns-in_err-bound-clause-complete
returns-in_err-bound-clause-complete c = λ h small is.
    let question = c.in_ok-question.ensures.complete h.question (last_four h) (small 0 0 (lit< tt)) refl (apart h c.args.text.now is) in
    let length = c.in_ok-length.ensures.complete h.length (last_three h) (small 1 0 (lit< tt)) refl question.1 in
    absurd (c.in_err-bound.ensures.complete h.bound (last_two h) (small 2 0 (lit< tt)) refl length.1)

pub returns-in_err-cycles-clause-complete : goal.returns-in_err-cycles-clause-complete
returns-in_err-cycles-clause-complete c = λ h small is.
    let question = c.in_ok-question.ensures.complete h.question (last_four h) (small 0 0 (lit< tt)) refl (apart h c.args.text.now is) in
    let length = c.in_ok-length.ensures.complete h.length (last_three h) (small 1 0 (lit< tt)) refl question.1 in
    let bound = c.in_ok-bound.ensures.complete h.bound (last_two h) (small 2 0 (lit< tt)) refl length.1 in
    absurd (none-some _ (c.in_err-cycles.ensures.complete h.cycles h.confirmed (small 3 0 (lit< tt)) (small 4 0 (lit< tt)) refl refl bound.1))

pub returns-clause-complete : goal.returns-clause-complete
returns-clause-complete c = λ h small is.
    let question = c.in_ok-question.ensures.complete h.question (last_four h) (small 0 0 (lit< tt)) refl (apart h c.args.text.now is) in
    let length = c.in_ok-length.ensures.complete h.length (last_three h) (small 1 0 (lit< tt)) refl question.1 in
    let bound = c.in_ok-bound.ensures.complete h.bound (last_two h) (small 2 0 (lit< tt)) refl length.1 in
    let cycles = some_pair_parts _ _ _ _ (c.in_ok-cycles.ensures.complete h.cycles h.confirmed (small 3 0 (lit< tt)) (small 4 0 (lit< tt)) refl refl bound.1) in
    λ i. Some (record { question = question.0 i; length = length.0 i; bound = bound.0 i; cycles = cycles.0 i; confirmed = cycles.1 i })
