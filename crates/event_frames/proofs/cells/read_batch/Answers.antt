use Rattle.std.proofs.Common.{◌≡◌, ◌+◌, ◌-◌, ◌*◌, suc, length, take, drop, ◌++◌, ◌∷◌, [], sym, ap, ◌∙◌, arith}
use Rattle.std.proofs.lemmas.List.{length-drop, take_all}
use Rattle.trace_model.specs.Protocol.Frames.{event_of, events_in}
use Rattle.event_frames.proofs.Batches.{events_more, length_events}
use Rattle.event_frames.proofs.cells.read_batch.Goals as goal

pub push-requires : goal.push-requires
push-requires c =
    omega (arith, ap length c.loop-index.invariant.1, length_events c.loop-index.index c.args.cells.now, c.loop-index-test.true, c.requires.few)

pub loop-index-preserved : goal.loop-index-preserved
loop-index-preserved c =
    let i = c.loop-index.index in
    let cells = c.args.cells.now in
    let rest : take (length cells - 9 * i) (drop (9 * i) cells) ≡ drop (9 * i) cells = take_all (length cells - 9 * i) (drop (9 * i) cells) (omega (arith, length-drop (9 * i) cells)) in
    let one : suc i ≡ i + 1 = omega arith in (
      omega (arith, c.loop-index-test.true),
      c.push.ensures ∙ ((λ j. c.loop-index.invariant.1 j ++ (c.event_of-in-loop-index.ensures ∙ ap event_of rest) j ∷ [])
          ∙ (sym (events_more i cells) ∙ ap (λ n. events_in n cells) one)),
    )
