use Rattle.std.proofs.Common.{◌≡◌, ◌+◌, ◌<◌, ◌++◌, Some, suc, length, take, get_or, slice_get, sym, ap, subst, ◌∙◌, arith, append_assoc, length-append}
use Rattle.std.proofs.Math.Seq.{take-append-add}
use Rattle.std.proofs.lemmas.List.{get_or-append-add, length-take-le}
use Rattle.std.proofs.lemmas.Option.{none-some, slice_get-get_or}
use Rattle.std.specs.Result.{result_err}
use Rattle.trace_model.specs.declared.limits.TheConstants.{MAX_EVENTS}
use Rattle.trace_model.specs.declared.traces.event.Event.{Event}
use Rattle.trace_model.specs.declared.traces.event.Op.TheVariants.{Fork}
use Rattle.trace_model.specs.Theory.Lawful.{refusal_of, IsWellFormed}
use Rattle.trace_model.proofs.Lists.{take_next}
use Rattle.wellformed.specs.Tables.{FollowEvents}
use Rattle.wellformed.proofs.tables.AdmissionTables.admit_all.Goals as goal

abbrev any : Event
any = record { thread = 0; op = Fork 0 }

pub admit-requires-clause-following : goal.admit-requires-clause-following
admit-requires-clause-following c =
    let (s, f) = c.requires.following in
    (s ++ take c.loop-event.event-index c.args.events.now, c.loop-event.invariant s f)

pub loop-event-preserved : goal.loop-event-preserved
loop-event-preserved c s before =
    let events = c.args.events.now in
    let i = c.loop-event.event-index in
    let next : suc i ≡ i + 1 = omega arith in
    let more = take_next i events _ (slice_get-get_or events i any c.loop-event-test.true) in
    let f = c.loop-event.invariant s before in
    let answer = c.in_ok-refusal.ensures.answer (s ++ take i events) f in
    let grown = c.in_ok-refusal.ensures.admitted (s ++ take i events) f (sym answer ∙ ap result_err c.in_default.is) in
    subst (FollowEvents c.admit.new.self) (append_assoc s (take i events) _ ∙ ap (λ r. s ++ r) (sym more ∙ ap (λ n. take n events) next)) grown

-- the refused event is the next one after the old events and the new ones so far
pub returns-in-Err : goal.returns-in-Err
returns-in-Err c s before =
    let events = c.args.events.now in
    let i = c.loop-event.event-index in
    let within = c.loop-event-test.true in
    let f = c.loop-event.invariant s before in
    let answer = c.in_ok-refusal.ensures.answer (s ++ take i events) f in
    let refused = sym answer ∙ ap result_err c.in-Err.is in
    let kept = c.in_ok-refusal.ensures.refused (s ++ take i events) f (λ none. none-some _ (sym none ∙ refused)) in
    let counted : c.admit.new.self.count ≡ length s + i = kept.counted ∙ length-append s (take i events) ∙ ap (λ n. length s + n) (length-take-le i events (omega arith)) in
    let front : take c.admit.new.self.count (s ++ events) ≡ s ++ take i events = ap (λ n. take n (s ++ events)) counted ∙ take-append-add s events i in
    let inside : length s + i < length (s ++ events) = omega (arith, length-append s events) in
    let at = slice_get-get_or (s ++ events) (length s + i) any inside ∙ ap Some (get_or-append-add s events i any) in (
      subst IsWellFormed (sym front) kept.well_formed,
      (
        get_or events i any,
        subst (λ n. slice_get (s ++ events) n ≡ Some (get_or events i any)) (sym counted) at,
        subst (λ r. refusal_of MAX_EVENTS r (get_or events i any) ≡ Some c.in-Err.refusal) (sym front) refused,
      ),
    )
