use Rattle.std.proofs.Common.{◌≡◌, ◌≤◌, ◌++◌, ℕ, List, Bor, Ok, length, map, ap, sym, subst, ◌∙◌}
use Rattle.std.proofs.lemmas.List.{length-map}
use Rattle.std.proofs.lemmas.Bool.{false≢true}
use Rattle.trace_model.specs.declared.traces.event.Event.{Event}
use Rattle.event_files.specs.EventFile.{event_word}
use Rattle.commands.proofs.WrongLines.{bad_batch, long_batch}
use Rattle.commands.proofs.script_command.reading.push_batch.Goals as goal

pub returns-then-not-branch-clause-wrong : goal.returns-then-not-branch-clause-wrong
returns-then-not-branch-clause-wrong c = λ _.
    let shown : Bor (List ℕ) → List ℕ = λ word. word.now in
    bad_batch (map shown c.args.words.now) (c.push_events.ensures.bad (c.in_ok-push_events.was ∙ ap Ok c.if-not-branch.true))

pub returns-in_default-clause-wrong : goal.returns-in_default-clause-wrong
returns-in_default-clause-wrong c = λ _.
    let shown : Bor (List ℕ) → List ℕ = λ word. word.now in
    let words = map shown c.args.words.now in
    let events = c.push_events.new.events.items in
    let read = c.in_ok-push_events.was ∙ ap Ok c.if-not-branch.false in
    let are = c.push_events.ensures.added read ∙ ap (λ (old : List Event). map event_word old ++ words) c.new-events.ensures.items in
    let long : length words ≡ length c.deref.result.now = ap length (sym are) ∙ (length-map events event_word ∙ ap length (sym c.deref.ensures.value)) in
    long_batch words (λ range. false≢true (c.in_default.ensures.in_range.1 (subst (λ n. (1 ≤ n) × (n ≤ 64)) long range)))
