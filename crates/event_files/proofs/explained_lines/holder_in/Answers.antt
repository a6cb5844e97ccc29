use Rattle.std.proofs.Common.{lit<, ◌≡◌, ◌++◌, List, ℕ, codes, refl, sym, ◌∙◌}
use Rattle.std.proofs.lemmas.List.{append_cancel_left}
use Rattle.event_files.specs.Refutations.{label_and_number}
use Rattle.event_files.proofs.ExplainedTexts.{split_three}
use Rattle.event_files.proofs.explained_lines.holder_in.Goals as goal

abbrev after_lock : List ℕ → List ℕ
after_lock rest = codes " holds" ++ rest

apart : (thread lock : ℕ) (text rest : List ℕ) → text ≡ label_and_number (codes "  thread ") thread ++ label_and_number (codes " lock ") lock ++ codes " holds" ++ rest →
    text ≡ label_and_number (codes "  thread ") thread ++ (label_and_number (codes " lock ") lock ++ after_lock rest)
apart thread lock text rest is = is ∙ split_three (label_and_number (codes "  thread ") thread) (label_and_number (codes " lock ") lock) (codes " holds") rest

pub returns-in_err-rest-clause-complete : goal.returns-in_err-rest-clause-complete
returns-in_err-rest-clause-complete c = λ thread lock rest small is.
    let one = c.in_ok-thread.ensures.complete thread (label_and_number (codes " lock ") lock ++ after_lock rest) (small 0 0 (lit< tt)) refl (apart thread lock c.args.text.now rest is) in
    let two = c.in_ok-lock.ensures.complete lock (after_lock rest) (small 1 0 (lit< tt)) refl one.1 in
    absurd (c.in_err-rest.ensures rest two.1)

pub returns-clause-complete : goal.returns-clause-complete
returns-clause-complete c = λ thread lock rest small is.
    let one = c.in_ok-thread.ensures.complete thread (label_and_number (codes " lock ") lock ++ after_lock rest) (small 0 0 (lit< tt)) refl (apart thread lock c.args.text.now rest is) in
    let two = c.in_ok-lock.ensures.complete lock (after_lock rest) (small 1 0 (lit< tt)) refl one.1 in
    (one.0, two.0, append_cancel_left (codes " holds") _ _ (sym c.in_ok-rest.ensures ∙ two.1))
