use Rattle.std.proofs.Common.{◌≡◌, ◌-◌, length, take, drop, get_or, sym, ap, ◌∙◌, arith}
use Rattle.std.proofs.lemmas.Bool.{false≢true}
use Rattle.std.proofs.lemmas.List.{length-drop, length-take, take_all}
use Rattle.trace_model.specs.Protocol.Frames.{request_of}
use Rattle.event_frames.proofs.Headers.{begins_with, offer_leads}
use Rattle.event_frames.proofs.leading.leading_offer.Goals as goal
use Rattle.event_frames.proofs.leading.leading_offer.Goals.{then-len-ne9-via-then-len-ne9, then-len-ne9-via-else-len-ne9+then-not-is_event_kind, then-len-ne9-via-else-len-ne9+else-not-is_event_kind+then-fields-lt8}

pub returns-clause-offer : goal.returns-clause-offer
returns-clause-offer c =
    let bytes = c.args.bytes.now in
    let fields_are : take (length bytes - 3) (drop 3 bytes) ≡ drop 3 bytes = take_all (length bytes - 3) (drop 3 bytes) (omega (arith, length-drop 3 bytes)) in
    offer_leads bytes c.event_with.result (λ i. omega (arith, c.type_inv.bytes i)) c.in-len3-up.len_at_least (sym c.from_be_bytes-len.ensures ∙ c.if-len-ne9.false) (sym c.is_event_kind.ensures ∙ c.if-not-is_event_kind.false) (omega (arith, ap length fields_are, c.if-fields-lt8.false)) (c.event_with.ensures ∙ ap (request_of (get_or bytes 2 0)) fields_are)

pub returns-in_default-clause-none : goal.returns-in_default-clause-none
returns-in_default-clause-none c = λ event rest fits is. omega (arith, c.in_default.len_below, (begins_with c.args.bytes.now event rest is).long)

pub returns-then-len-ne9-clause-none : goal.returns-then-len-ne9-clause-none
returns-then-len-ne9-clause-none c = λ event rest fits is.
    let bytes = c.args.bytes.now in
    let offer = begins_with bytes event rest is in
    elim c.then-len-ne9.branch [
      | then-len-ne9-via-then-len-ne9 w ↦ w.if-len-ne9.true (c.from_be_bytes-len.ensures ∙ offer.nine)
      | then-len-ne9-via-else-len-ne9+then-not-is_event_kind w ↦ absurd (false≢true (sym w.if-not-is_event_kind.true ∙ w.is_event_kind.ensures ∙ offer.known))
      | then-len-ne9-via-else-len-ne9+else-not-is_event_kind+then-fields-lt8 w ↦ omega (arith, offer.whole, length-drop 3 bytes, length-take (length bytes - 3) (drop 3 bytes), w.if-fields-lt8.true)
    ]
