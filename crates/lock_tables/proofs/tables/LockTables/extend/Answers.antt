use Rattle.std.proofs.Common.{◌≡◌, ◌+◌, ◌<◌, ◌++◌, Some, suc, length, take, get_or, sym, ap, subst, ◌∙◌, arith, None, append_assoc, length-append}
use Rattle.std.proofs.Math.Seq.{take-append-add}
use Rattle.std.proofs.lemmas.List.{get_or-append-add, take_all}
use Rattle.std.proofs.lemmas.Option.{slice_get-get_or}
use Rattle.std.proofs.lemmas.Result.{IfOk-from_err, on_ok_weaker}
use Rattle.trace_model.specs.declared.limits.TheConstants.{MAX_EVENTS}
use Rattle.trace_model.specs.declared.traces.event.Event.{Event}
use Rattle.trace_model.specs.declared.traces.event.Op.TheVariants.{Fork}
use Rattle.trace_model.specs.Theory.Lawful.{refusal_of}
use Rattle.trace_model.proofs.Lists.{take_next}
use Rattle.lock_tables.specs.Tables.{FollowTrace}
use Rattle.lock_tables.proofs.tables.LockTables.extend.Goals as goal

abbrev any : Event
any = record { thread = 0; op = Fork 0 }

pub append-requires : goal.append-requires
append-requires c =
    let (s, f, lawful) = c.requires in
    let events = c.args.events.now in
    let i = c.loop-event.event-index in
    let within = c.loop-event-test.true in
    let inside : length s + i < length (s ++ events) = omega (arith, length-append s events) in
    let at = slice_get-get_or (s ++ events) (length s + i) any inside ∙ ap Some (get_or-append-add s events i any) in (
      s ++ take i events,
      c.loop-event.invariant s f,
      subst (λ r. refusal_of MAX_EVENTS r (get_or events i any) ≡ None) (take-append-add s events i) (lawful (length s + i) _ at),
    )

pub loop-event-preserved : goal.loop-event-preserved
loop-event-preserved c s before =
    let events = c.args.events.now in
    let i = c.loop-event.event-index in
    let next : suc i ≡ i + 1 = omega arith in
    let more = take_next i events _ (slice_get-get_or events i any c.loop-event-test.true) in
    let grown = c.in_ok-append.ensures (s ++ take i events) (c.loop-event.invariant s before) in
    subst (FollowTrace c.append.new.self) (append_assoc s (take i events) _ ∙ ap (λ r. s ++ r) (sym more ∙ ap (λ n. take n events) next)) grown

pub returns : goal.returns
returns c =
    on_ok_weaker c.catch_up.result (λ _ s before.
    let events = c.args.events.now in
    let i = c.loop-event.event-index in
    subst (λ r. FollowTrace c.catch_up.new.self (s ++ r)) (take_all i events c.loop-event-test.false)
    (c.catch_up.ensures.follow (s ++ take i events) (c.loop-event.invariant s before))) c.catch_up.ensures.all

pub returns-in_err-append : goal.returns-in_err-append
returns-in_err-append c = IfOk-from_err c.from_residual.result _ c.from_residual.ensures.0
