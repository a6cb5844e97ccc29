use Rattle.std.proofs.Common.{rules, ◌<◌, ◌^◌, ◌++◌, ◌∷◌, ℕ, Some}
use Rattle.std.specs.Prelude.{option_to_list}
use Rattle.std.proofs.lemmas.List.Elements.{All-append, All-cons}
use Rattle.std.proofs.lemmas.Option.{none-some, same_Some}
use Rattle.event_files.specs.ExplainedText.{place_words}
use Rattle.event_files.specs.NumberedText.{after_spaces}
use Rattle.event_files.proofs.ExplainedTexts.{member_apart, small_parts, stops_place}
use Rattle.event_files.proofs.explained_lines.member_in.Goals as goal

pub returns-in_default-clause-complete : goal.returns-in_default-clause-complete
returns-in_default-clause-complete c = λ m small is.
    absurd (c.in_default.ensures.complete m.thread m.lock (after_spaces m.held ++ place_words m.place) (small_parts m small).holder (member_apart m c.args.text.now is))

pub returns-in_default-place_in-clause-complete : goal.returns-in_default-place_in-clause-complete
returns-in_default-place_in-clause-complete c = λ m small is.
    let parts = small_parts m small in
    let holder = c.in-Some.ensures.complete m.thread m.lock (after_spaces m.held ++ place_words m.place) parts.holder (member_apart m c.args.text.now is) in
    let held = c.in_ok-held.ensures.complete m.held (place_words m.place) parts.held (stops_place m.place) holder.2 in
    absurd (none-some _ (c.in_default-place_in.ensures.complete m.place parts.place held.1))

pub returns-clause-small : goal.returns-clause-small
returns-clause-small c =
    let P : ℕ → Type 0 = λ k. k < 2 ^ 32 in
    let rest = All-append P c.in_ok-held.held.items (option_to_list c.in-Some-place_in.place) c.in_ok-held.ensures.small c.in-Some-place_in.ensures.small in
    let thread : c.in-Some.thread < 2 ^ 32 = search rules in
    let lock : c.in-Some.lock < 2 ^ 32 = search rules in
    All-cons P c.in-Some.thread (c.in-Some.lock ∷ (c.in_ok-held.held.items ++ option_to_list c.in-Some-place_in.place)) thread
    (All-cons P c.in-Some.lock (c.in_ok-held.held.items ++ option_to_list c.in-Some-place_in.place) lock rest)

pub returns-clause-complete : goal.returns-clause-complete
returns-clause-complete c = λ m small is.
    let parts = small_parts m small in
    let holder = c.in-Some.ensures.complete m.thread m.lock (after_spaces m.held ++ place_words m.place) parts.holder (member_apart m c.args.text.now is) in
    let held = c.in_ok-held.ensures.complete m.held (place_words m.place) parts.held (stops_place m.place) holder.2 in
    let place = same_Some _ _ (c.in-Some-place_in.ensures.complete m.place parts.place held.1) in
    λ i. Some (record { thread = holder.0 i; lock = holder.1 i; held = held.0 i; place = place i })
