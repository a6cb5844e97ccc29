use Rattle.std.proofs.Common.{◌≡◌, ◌≤◌, ◌++◌, ◌∷◌, [], None, Some, length, take, get_or, sym, ap, subst, ◌∙◌, arith, append_assoc}
use Rattle.std.proofs.lemmas.List.{take_more}
use Rattle.std.proofs.lemmas.Option.{get_or_from_slice_get, slice_get-get_or, slice_get_past}
use Rattle.trace_model.specs.declared.traces.event.Event.{Event}
use Rattle.trace_model.specs.declared.traces.event.Op.TheVariants.{Fork}
use Rattle.trace_model.specs.Protocol.Batches.{AreLawful}
use Rattle.trace_model.specs.Theory.Lawful.{refusal_of}
use Rattle.trace_model.specs.Protocol.Machine.{State, with_event, with_events}
use Rattle.trace_model.specs.Theory.Trace.{Trace}
use Rattle.sequencer.specs.Batched.{EndsBatch}
use Rattle.sequencer.specs.Book.{RefusesOffer}
use Rattle.trace_model.proofs.Protocol.Batches.{lawful_more, lawful_one}
use Rattle.sequencer.proofs.book.Book.record_batch.Goals as goal

-- an arbitrary event
abbrev any : Event
any = record { thread = 0; op = Fork 0 }

pub loop-accepted-init : goal.loop-accepted-init
loop-accepted-init c =
    let s = c.args.self.now.state in
    let es = c.args.events.now in
    let (e, at, reserved, lawful) = c.requires.admitted in
    let first : get_or es 0 any ≡ e = get_or_from_slice_get es 0 e any at in
    let one : take 1 es ≡ e ∷ [] = take_more es 0 any (omega (arith, c.requires.batch.0)) ∙ ap (λ x. x ∷ []) first in
    record {
      some = omega arith;
      within = c.requires.batch.0;
      lawful = subst (AreLawful s.limit s.accepted) (sym one) (lawful_one s.limit s.accepted e lawful);
      appended = c.record_event.ensures ∙ (ap (with_event s) first ∙ ap (with_events s) (sym one));
    }

pub loop-accepted-preserved : goal.loop-accepted-preserved
loop-accepted-preserved c =
    let s = c.args.self.now.state in
    let es = c.args.events.now in
    let i = c.loop-accepted.accepted in
    let e = get_or es i any in
    let v = c.loop-accepted.invariant in
    let more = take_more es i any c.loop-accepted-test.true in
    let lawful : refusal_of s.limit (s.accepted ++ take i es) e ≡ None =
    subst (λ (m : State). refusal_of m.limit m.accepted e ≡ None) v.appended c.in_default.ensures.ok.1 in
    record {
      some = omega arith;
      within = omega (arith, c.loop-accepted-test.true);
      lawful = subst (AreLawful s.limit s.accepted) (sym more) (lawful_more s.limit s.accepted (take i es) e v.lawful lawful);
      appended = c.record_event-in-loop-accepted.ensures
          ∙ (ap (λ (m : State). with_event m e) (c.reserve_event.ensures.shown ∙ v.appended)
          ∙ (ap (λ (a : Trace). record s { accepted = a }) (append_assoc s.accepted (take i es) (e ∷ []))
          ∙ ap (with_events s) (sym more)));
    }

pub returns-clause-batched : goal.returns-clause-batched
returns-clause-batched c =
    let es = c.args.events.now in
    let v = c.loop-accepted.invariant in
    let past : length es ≤ c.loop-accepted.accepted = omega (arith, c.loop-accepted-test.false) in
    record {
      first = c.accepted-length.ensures;
      within = v.within;
      lawful = v.lawful;
      appended = v.appended;
      ended = subst (λ o. EndsBatch c.loop-accepted.self.state o None) (sym (slice_get_past es c.loop-accepted.accepted past)) tt;
    }

pub returns-in-Err-clause-batched : goal.returns-in-Err-clause-batched
returns-in-Err-clause-batched c =
    let s = c.args.self.now.state in
    let es = c.args.events.now in
    let i = c.loop-accepted.accepted in
    let v = c.loop-accepted.invariant in
    let after = c.reserve_event.new.self.state in
    let shown = c.reserve_event.ensures.shown in
    let at = slice_get-get_or es i any c.loop-accepted-test.true in
    record {
      first = c.accepted-length.ensures;
      within = v.within;
      lawful = v.lawful;
      appended = shown ∙ v.appended;
      ended = subst (λ o. EndsBatch after o (Some c.in-Err.refusal)) (sym at)
          (subst (λ (m : State). RefusesOffer m (get_or es i any) c.in-Err.refusal) (sym shown) c.in-Err.ensures.refused);
    }

pub record_event-requires : goal.record_event-requires
record_event-requires c =
    let s = c.args.self.now.state in
    let (e, at, reserved, lawful) = c.requires.admitted in
    let first : e ≡ get_or c.args.events.now 0 any = sym (get_or_from_slice_get c.args.events.now 0 e any at) in
    record {
      reserved = reserved ∙ ap (λ (x : Event). Some x) first;
      lawful = subst (λ x. refusal_of s.limit s.accepted x ≡ None) first lawful;
    }

pub record_event-requires-in-loop-accepted : goal.record_event-requires-in-loop-accepted
record_event-requires-in-loop-accepted c =
    let e = get_or c.args.events.now c.loop-accepted.accepted any in
    let admitted = c.in_default.ensures.ok in
    record {
      reserved = admitted.0;
      lawful = subst (λ (m : State). refusal_of m.limit m.accepted e ≡ None) (sym c.in_default.ensures.shown) admitted.1;
    }

pub overflow_cast-result : goal.overflow_cast-result
overflow_cast-result c = omega (arith, c.requires.batch.1, c.loop-accepted-test.true)

pub overflow_cast-result-2 : goal.overflow_cast-result-2
overflow_cast-result-2 c = omega (arith, c.requires.batch.1, c.loop-accepted.invariant.within)

pub overflow_add-accepted : goal.overflow_add-accepted
overflow_add-accepted c = omega (arith, c.requires.batch.1, c.loop-accepted-test.true)

pub returns-in-Err-clause-some : goal.returns-in-Err-clause-some
returns-in-Err-clause-some c = c.loop-accepted.invariant.some
