use Rattle.std.proofs.Common.{◌≡◌, ◌≤◌, get_or, length, ap, sym, subst, ◌∙◌, arith}
use Rattle.std.proofs.lemmas.Option.{slice_get-get_or}
use Rattle.std.proofs.lemmas.Result.{IfOk-from_err}
use Rattle.trace_model.specs.Theory.Trace.{last_place}
use Rattle.replay.specs.Facts.{previous, each, is_of_thread}
use Rattle.replay.proofs.FactLists.{no_event, each_more, has_each, thread_more, previous_is}
use Rattle.replay.proofs.facts.previous_places.Goals as goal

pub loop-index-preserved : goal.loop-index-preserved
loop-index-preserved c =
    let s = c.args.trace.now in
    let n = c.loop-index.index in
    let e = get_or s n no_event in
    let at = slice_get-get_or s n no_event c.loop-index-test.true in
    let h = c.loop-index.invariant in
    let before = c.last-before.ensures ∙ h.lasts e.thread ∙ sym (previous_is s n e at) in
    record {
      previous = c.push_reserved.ensures.items ∙ each_more (previous s) n c.loop-index.previous.items c.last-before.result h.previous before;
      room = subst (λ z. length s ≤ z) (sym c.push_reserved.ensures.capacity) h.room;
      lasts = λ t. thread_more s n t e _ _ at (h.lasts t) (rw c.new.ensures at c.in_ok-note_thread.ensures t);
    }

pub push_reserved-requires : goal.push_reserved-requires
push_reserved-requires c = omega (arith, has_each (previous c.args.trace.now) c.loop-index.index c.loop-index.previous.items c.loop-index.invariant.previous, c.loop-index.invariant.room, c.loop-index-test.true)

pub returns-in_err-previous : goal.returns-in_err-previous
returns-in_err-previous c =
    let is = c.from_residual.ensures.0 in
    record { previous = IfOk-from_err c.from_residual.result _ is; lasts = IfOk-from_err c.from_residual.result _ is }

pub returns-in_err-note_thread : goal.returns-in_err-note_thread
returns-in_err-note_thread c =
    let is = c.from_residual-in_err-note_thread.ensures.0 in
    record { previous = IfOk-from_err c.from_residual-in_err-note_thread.result _ is; lasts = IfOk-from_err c.from_residual-in_err-note_thread.result _ is }

pub returns : goal.returns
returns c =
    let s = c.args.trace.now in
    let whole : c.loop-index.index ≡ length s = omega (arith, c.loop-index-test.false, c.loop-index.auto.index-end) in
    record {
      previous = c.loop-index.invariant.previous ∙ ap (each (previous s)) whole;
      lasts = λ t. c.loop-index.invariant.lasts t ∙ ap (last_place (is_of_thread s t)) whole;
    }
