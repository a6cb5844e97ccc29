use Rattle.std.proofs.Common.{◌≡◌, ◌+◌, ◌++◌, ◌∷◌, ℕ, List, [], Bor, Some, get_or, map, take, ap, sym, subst, ◌∙◌, arith}
use Rattle.std.specs.Prelude.{option_map, slice_get}
use Rattle.std.proofs.lemmas.Grind.{common_steps}
use Rattle.std.proofs.lemmas.List.{take_all}
use Rattle.std.proofs.lemmas.Option.{slice_get-get_or, slice_get-map}
use Rattle.event_files.specs.EventFile.{IsEventWord, event_word}
use Rattle.commands.proofs.ScriptLines.{AddsOffers, adds_nothing, adds_offer, adds_line}
use Rattle.commands.proofs.script_command.reading.push_offers.Goals as goal

pub loop-word-init : goal.loop-word-init
loop-word-init c = adds_nothing c.args.commands.now.items

pub returns-in_default-clause-bad : goal.returns-in_default-clause-bad
returns-in_default-clause-bad c = λ _.
    let shown : Bor (List ℕ) → List ℕ = λ word. word.now in
    let words = c.args.words.now in
    let i = c.loop-word.word-index in
    let none : Bor (List ℕ) = record { ref_ptr = (0, 0); now = [] } in
    let here = (get_or words i none).now in
    let at : slice_get (map shown words) i ≡ Some here = slice_get-map shown words i ∙ ap (option_map shown) (slice_get-get_or words i none c.loop-word-test.true) in
    (i, here, at, λ (w : IsEventWord here). c.in_default.not-Some w.0 (c.event.ensures.complete w.0 w.1 w.2))

pub loop-word-preserved : goal.loop-word-preserved
loop-word-preserved c =
    let shown : Bor (List ℕ) → List ℕ = λ word. word.now in
    let words = c.args.words.now in
    let i = c.loop-word.word-index in
    let event = c.in-Some.event in
    let more : map shown (take (i + 1) words) ≡ map shown (take i words) ++ event_word event ∷ [] = grind (arith, common_steps) in
    subst (λ said. AddsOffers c.args.commands.now.items said c.push.new.self.items) (sym more)
    (adds_offer c.args.commands.now.items c.loop-word.commands.items c.push.new.self.items (map shown (take i words)) event c.loop-word.invariant c.in-Some.ensures.fits c.in_ok-push.ensures.items)

pub returns-clause-added : goal.returns-clause-added
returns-clause-added c = λ _.
    let shown : Bor (List ℕ) → List ℕ = λ word. word.now in
    let words = c.args.words.now in
    let all : take c.loop-word.word-index words ≡ words = take_all c.loop-word.word-index words (omega (arith, c.loop-word-test.false)) in
    adds_line c.args.commands.now.items c.loop-word.commands.items (map shown words) (subst (λ said. AddsOffers c.args.commands.now.items (map shown said) c.loop-word.commands.items) all c.loop-word.invariant)
