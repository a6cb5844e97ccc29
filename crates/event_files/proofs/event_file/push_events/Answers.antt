use Rattle.std.proofs.Common.{◌≡◌, ℕ, List, [], Bor, Some, get_or, map, ap, ◌∙◌}
use Rattle.std.proofs.Common.{arith}
use Rattle.std.proofs.lemmas.Grind.{common_steps}
use Rattle.std.proofs.lemmas.List.Elements.{All-push, All-same}
use Rattle.trace_model.specs.Protocol.Frames.{FitsWords}
use Rattle.std.proofs.lemmas.Option.{slice_get-get_or, slice_get-map}
use Rattle.std.specs.Prelude.{option_map, slice_get}
use Rattle.event_files.specs.EventFile.{IsEventWord}
use Rattle.event_files.proofs.event_file.push_events.Goals as goal

pub returns-in_default-clause-bad : goal.returns-in_default-clause-bad
returns-in_default-clause-bad c = λ _.
    let shown : Bor (List ℕ) → List ℕ = λ word. word.now in
    let words = c.args.words.now in
    let i = c.loop-word.word-index in
    let none : Bor (List ℕ) = record { ref_ptr = (0, 0); now = [] } in
    let here = (get_or words i none).now in
    let at : slice_get (map shown words) i ≡ Some here = slice_get-map shown words i ∙ ap (option_map shown) (slice_get-get_or words i none c.loop-word-test.true) in
    (i, here, at, λ (w : IsEventWord here). c.in_default.not-Some w.0 (c.event.ensures.complete w.0 w.1 w.2))

pub loop-word-preserved : goal.loop-word-preserved
loop-word-preserved c =
    let kept = c.loop-word.invariant in (
      grind (arith, common_steps),
      λ before.
          All-same FitsWords _ _ c.in_ok-push.ensures.items (All-push FitsWords c.loop-word.events.items c.in-Some.event (kept.1 before) c.in-Some.ensures.fits),
    )
