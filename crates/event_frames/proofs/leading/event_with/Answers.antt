use Rattle.std.proofs.Common.{◌≡◌, ◌-◌, List, ℕ, length, take, drop, sym, ap, ◌∙◌, arith}
use Rattle.std.specs.Int.{w32, from_be_bytes}
use Rattle.std.proofs.lemmas.List.{length-drop, take_all}
use Rattle.trace_model.specs.Protocol.Frames.{op_of}
use Rattle.trace_model.specs.declared.messages.session.Request.TheVariants.{Offer}
use Rattle.trace_model.proofs.Protocol.Written.{request_event}
use Rattle.event_frames.proofs.Headers.{event_kind_most}
use Rattle.event_frames.proofs.leading.event_with.Goals as goal

pub returns : goal.returns
returns c =
    let kind = c.args.kind in
    let fields = c.args.fields.now in
    let rest : take (length fields - 4) (drop 4 fields) ≡ drop 4 fields = take_all (length fields - 4) (drop 4 fields) (omega (arith, length-drop 4 fields)) in
    let object = c.word-2.ensures ∙ ap (λ (x : List ℕ). from_be_bytes w32 (take 4 x)) rest in
    (λ i. Offer (record { thread = c.word.ensures i; op = (c.op_of.ensures ∙ ap (op_of kind) object) i }))
    ∙ sym (request_event kind fields (event_kind_most kind c.requires.kind))
