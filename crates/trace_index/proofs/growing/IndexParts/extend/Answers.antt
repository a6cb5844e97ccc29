use Rattle.std.proofs.Common.{◌≡◌, ℕ, ◌+◌, ◌<◌, ◌++◌, ◌∷◌, [], None, length, get_or, take, sym, ap, ◌∙◌, arith, append_assoc, append-nil, length-append}
use Rattle.std.proofs.lemmas.List.{take_more, take_all, get_or-append-add}
use Rattle.std.proofs.Math.Seq.{take-append-add}
use Rattle.std.proofs.lemmas.Option.{slice_get-get_or}
use Rattle.trace_model.specs.declared.limits.TheConstants.{MAX_EVENTS}
use Rattle.trace_model.specs.declared.traces.event.Event.{Event}
use Rattle.trace_model.specs.Theory.Trace.{Trace}
use Rattle.trace_model.specs.Theory.Lawful.{IsWellFormed, refusal_of}
use Rattle.trace_index.specs.Links.{trace_of}
use Rattle.trace_index.proofs.KeyLists.{trace_push}
use Rattle.trace_index.proofs.growing.IndexParts.extend.Goals as goal

-- the next event is lawful after the events of the index
lawful : (old events before : Trace) (e : Event) (i : ℕ) (d : Event) → IsWellFormed (old ++ events) → i < length events → before ≡ old ++ take i events → e ≡ get_or events i d →
    refusal_of MAX_EVENTS before e ≡ None
lawful old events before e i d well within is same =
    let p = length old + i in
    let all = old ++ events in
    let at : get_or all p d ≡ get_or events i d = get_or-append-add old events i d in
    let short : p < length all = omega (arith, length-append old events) in
    ap (λ s. refusal_of MAX_EVENTS s e) (is ∙ sym (take-append-add old events i)) ∙ ap (refusal_of MAX_EVENTS (take p all)) (same ∙ sym at)
    ∙ well p (get_or all p d) (slice_get-get_or all p d short)

-- one more event
one_more : (old events before after : Trace) (e : Event) (i : ℕ) (d : Event) → i < length events → before ≡ old ++ take i events → e ≡ get_or events i d → after ≡ before ++ e ∷ [] →
    after ≡ old ++ take (i + 1) events
one_more old events before after e i d within is same added =
    added ∙ ap (λ s. s ++ e ∷ []) is ∙ append_assoc old (take i events) (e ∷ []) ∙ ap (λ l. old ++ l) (ap (λ x. take i events ++ x ∷ []) same ∙ sym (take_more events i d within))

pub loop-event-init : goal.loop-event-init
loop-event-init g c = record { whole = c.requires.whole; events = sym (append-nil (trace_of c.args.self.now.rows.0)) }

pub prepare-requires : goal.prepare-requires
prepare-requires g c = c.loop-event.invariant.whole

pub put-requires-clause-lawful : goal.put-requires-clause-lawful
put-requires-clause-lawful g c =
    lawful (trace_of c.args.self.now.rows.0) c.args.events.now _ _ c.loop-event.event-index _ c.requires.lawful c.loop-event-test.true (ap trace_of c.in_ok-ready.ensures.rows ∙ c.loop-event.invariant.events)
    c.in_ok-ready.ensures.event

pub loop-event-preserved : goal.loop-event-preserved
loop-event-preserved g c = record {
  whole = c.put.ensures.whole;
  events = one_more (trace_of c.args.self.now.rows.0) c.args.events.now _ _ _ c.loop-event.event-index _ c.loop-event-test.true (ap trace_of c.in_ok-ready.ensures.rows ∙ c.loop-event.invariant.events)
      c.in_ok-ready.ensures.event (ap trace_of c.put.ensures.rows ∙ trace_push c.prepare.new.self.rows.0 c.in_ok-ready.ready.row);
}

pub returns-clause-events : goal.returns-clause-events
returns-clause-events g c = c.loop-event.invariant.events ∙ ap (λ l. trace_of c.args.self.now.rows.0 ++ l) (take_all c.loop-event.event-index c.args.events.now (omega arith))
