use Rattle.std.proofs.Common.{◌≡◌, ℕ, ◌+◌, ◌-◌, ◌≤◌, ◌++◌, length, take, drop, get_or, sym, ap, subst, ◌∙◌, arith}
use Rattle.std.proofs.lemmas.List.{length-drop, take_all}
use Rattle.trace_model.specs.Protocol.Frames.{fields_fault, frame, is_length_of, request_of}
use Rattle.trace_model.proofs.Protocol.Leading.{leading_takes}
use Rattle.event_frames.proofs.Headers.{header_is, len_at, whole_at}
use Rattle.event_frames.proofs.leading.leading.Goals as goal

pub request_of-requires-clause-kind : goal.request_of-requires-clause-kind
request_of-requires-clause-kind c = (header_is c.args.bytes.now c.in-len3-up.len_at_least (sym c.header_fault.ensures ∙ c.in_default.is)).known

pub request_of-requires-clause-right : goal.request_of-requires-clause-right
request_of-requires-clause-right c =
    let header = header_is c.args.bytes.now c.in-len3-up.len_at_least (sym c.header_fault.ensures ∙ c.in_default.is) in
    ap (is_length_of (get_or c.args.bytes.now 2 0)) c.from_be_bytes-len.ensures ∙ header.right

pub request_of-requires-clause-sound : goal.request_of-requires-clause-sound
request_of-requires-clause-sound c =
    let bytes = c.args.bytes.now in
    let header = header_is bytes c.in-len3-up.len_at_least (sym c.header_fault.ensures ∙ c.in_default.is) in
    let fields_are : take (length bytes - 3) (drop 3 bytes) ≡ drop 3 bytes = take_all (length bytes - 3) (drop 3 bytes) (omega (arith, length-drop 3 bytes)) in
    (λ i. fields_fault (get_or bytes 2 0) (c.from_be_bytes-len.ensures i) (fields_are i)) ∙ header.sound

pub returns : goal.returns
returns c =
    let bytes = c.args.bytes.now in
    let h = sym c.header_fault.ensures ∙ c.in_default.is in
    let fields_are : take (length bytes - 3) (drop 3 bytes) ≡ drop 3 bytes = take_all (length bytes - 3) (drop 3 bytes) (omega (arith, length-drop 3 bytes)) in
    let le : len_at bytes ≤ length (drop 3 bytes) + 1 = omega (arith, ap length fields_are) in
    let w = whole_at bytes c.in-len3-up.len_at_least h le in
    let request_is = c.request_of.ensures ∙ ap (request_of (get_or bytes 2 0)) fields_are in
    let t = leading_takes bytes c.request_of.result (drop (c.from_be_bytes-len.result + 2) bytes) (λ i. omega (arith, c.type_inv.bytes i)) (rw (request_is, c.from_be_bytes-len.ensures) w) in
    let place : bytes ≡ frame c.request_of.result ++ drop (c.from-2.result + 2) bytes =
    subst (λ (n : ℕ). bytes ≡ frame c.request_of.result ++ drop (n + 2) bytes) (sym c.from-2.ensures) t.1 in
    (t.0, place, omega (arith, length-drop 3 bytes, c.from-2.ensures))
