use Rattle.std.proofs.Common.{◌≡◌, ◌+◌, ◌*◌, ◌∷◌, ◌++◌, length, take, ◌∙◌, arith}
use Rattle.std.specs.Int.{w16, to_be_bytes}
use Rattle.std.specs.List.{flat_map}
use Rattle.std.proofs.lemmas.List.{take_all}
use Rattle.std.proofs.lemmas.Result.{IfOk-from_err}
use Rattle.trace_model.specs.declared.messages.session.Request.TheVariants.{Batch}
use Rattle.trace_model.specs.Protocol.Frames.{body, event_bytes, frame}
use Rattle.trace_model.proofs.Protocol.BatchFrames.{length_cells}
use Rattle.event_frames.proofs.requests.batch_frame.Goals as goal

pub returns-in_err-extend_from_slice : goal.returns-in_err-extend_from_slice
returns-in_err-extend_from_slice c = IfOk-from_err c.from_residual.result _ c.from_residual.ensures.0

pub returns-in_err-extend_from_slice-2 : goal.returns-in_err-extend_from_slice-2
returns-in_err-extend_from_slice-2 c = IfOk-from_err c.from_residual-in_err-extend_from_slice-2.result _ c.from_residual-in_err-extend_from_slice-2.ensures.0

pub returns-in_err-extend_from_slice-3 : goal.returns-in_err-extend_from_slice-3
returns-in_err-extend_from_slice-3 c = IfOk-from_err c.from_residual-in_err-extend_from_slice-3.result _ c.from_residual-in_err-extend_from_slice-3.ensures.0

pub returns : goal.returns
unfolding frame
returns c =
    let es = c.args.events.now in
    let all : take c.loop-event.event-index es ≡ es = take_all c.loop-event.event-index es (omega (arith, c.loop-event-test.false)) in
    let size : 2 + 9 * length es ≡ length (body (Batch es)) = omega (arith, length_cells es) in
    c.loop-event.invariant ∙ (λ i. to_be_bytes w16 (size i) ++ (10 ∷ length es ∷ flat_map event_bytes (all i)))
