use Rattle.std.proofs.Common.{◌≡◌, None, Some, get_or, length, sym, ap, subst, ◌∙◌, arith}
use Rattle.std.proofs.lemmas.List.{append-nil}
use Rattle.std.proofs.lemmas.Option.{none-some, slice_get-get_or}
use Rattle.trace_model.specs.declared.traces.event.Event.{Event}
use Rattle.trace_model.specs.declared.traces.event.Op.TheVariants.{Fork}
use Rattle.trace_model.specs.Protocol.Machine.{State}
use Rattle.trace_model.specs.Theory.Lawful.{refusal_of}
use Rattle.trace_model.specs.Theory.Trace.{Trace}
use Rattle.sequencer.specs.Batched.{EndsBatch, IsBatched}
use Rattle.sequencer.specs.Book.{RefusesOffer}
use Rattle.sequencer.proofs.book.Book.offer_batch.Goals as goal

-- an arbitrary event
abbrev any : Event
any = record { thread = 0; op = Fork 0 }

pub record_batch-requires : goal.record_batch-requires
record_batch-requires c =
    let e = get_or c.args.events.now 0 any in
    let admitted = c.in-Ok.ensures.ok in
    let lawful = subst (λ (m : State). refusal_of m.limit m.accepted e ≡ None) (sym c.in-Ok.ensures.shown) admitted.1 in
    record {
      batch = c.requires;
      admitted = (e, slice_get-get_or c.args.events.now 0 any c.requires.0, admitted.0, lawful);
    }

pub returns-in-Ok : goal.returns-in-Ok
returns-in-Ok c = subst (λ (s : State). IsBatched s c.args.events.now c.record_batch.result c.record_batch.new.self.state) c.in-Ok.ensures.shown c.record_batch.ensures.batched

pub returns-in-Err : goal.returns-in-Err
returns-in-Err c =
    let s = c.args.self.now.state in
    let e = get_or c.args.events.now 0 any in
    let after = c.reserve_event.new.self.state in
    let shown = c.in-Err.ensures.shown in
    record {
      first = c.accepted.ensures ∙ ap (λ (m : State). length m.accepted) shown;
      within = omega arith;
      lawful = λ k other h. absurd (none-some other h);
      appended = shown ∙ ap (λ (a : Trace). record s { accepted = a }) (sym (append-nil s.accepted));
      ended = subst (λ o. EndsBatch after o (Some c.in-Err.refusal)) (sym (slice_get-get_or c.args.events.now 0 any c.requires.0))
          (subst (λ (m : State). RefusesOffer m e c.in-Err.refusal) (sym shown) c.in-Err.ensures.refused);
    }
