use Rattle.std.proofs.Common.{List, ℕ, Ok, Some, subst, arith}
use Rattle.std.proofs.lemmas.List.{length-drop}
use Rattle.trace_model.specs.declared.messages.session.Request.TheVariants.{Offer}
use Rattle.event_frames.specs.Leading.{IsLeading}
use Rattle.event_frames.proofs.Headers.{begins_with}
use Rattle.event_frames.proofs.ReadFrames.{no_fault, rest_at, takes}
use Rattle.event_frames.proofs.Wholes.{tells}
use Rattle.event_frames.proofs.reader.FrameReader.next_offer.Goals as goal

pub returns-clause-taken : goal.returns-clause-taken
returns-clause-taken c =
    let i = c.self.inside in
    let offer = Offer c.in_ok-event.event in
    let at = rest_at c.deref.result.now i.bytes.items i.start c.deref.ensures.value in
    let f = subst (λ (b : List ℕ). IsLeading b (Ok (Some (offer, c.in_ok-event.len)))) at c.in_ok-event.ensures.offer in
    takes i.bytes.items i.start c.in_ok-event.len i.ended i.returned _ _ offer c.args.self.now c.self.view_is (no_fault i.returned c.self.invariant.1 (omega (arith, i.bytes.ok.0, length-drop i.start i.bytes.items, (begins_with _ _ _ f.1).long))) f.0 f.1

pub returns-clause-grammar : goal.returns-clause-grammar
returns-clause-grammar c = tells c.args.self.now (Ok (Some (Offer c.in_ok-event.event))) _ (returns-clause-taken c)
