use Rattle.std.proofs.Common.{◌≡◌, ◌<◌, ◌≤◌, ℕ, [], ap, arith, length, refl, subst, take, ◌∙◌}
use Rattle.std.proofs.lemmas.List.{length-take}
use Rattle.std.proofs.lemmas.Result.{err_from_is_err_and}
use Rattle.sessions.specs.declared.serving.TheConstants.{PIECE}
use Rattle.sessions.specs.Serving.{requests_called, EndsOnlyAt}
use Rattle.sessions.proofs.SessionTurns.{counted_broken, counted_end, serving_starts, sent_on, serving_on, ends_unsent, ends_unread, ends_unfed, ends_fault, ends_input, ends_broken, fed_handed, end_handed, not_ended_at}
use Rattle.sessions.proofs.serving.serve.Goals as goal

pub loop-init : goal.loop-init
loop-init g c = (tt, tt, serving_starts g.C.Calls.steps (g.S.Source.left c.args.source.now) (g.K.Sink.written c.args.sink.now) c.args.calls.now (g.S.Source.failures c.args.source.now) (g.K.Sink.failures c.args.sink.now) c.new-reader.result c.new-reader.ensures.grammar (ap (λ r. r.returned) c.new-reader.ensures.made) (ap (λ r. r.ended) c.new-reader.ensures.made))

pub returns-in_default : goal.returns-in_default
returns-in_default g c = record {
  served = ends_unsent g.C.Calls.steps (g.S.Source.left c.args.source.now) (g.K.Sink.written c.args.sink.now) c.args.calls.now (g.S.Source.failures c.args.source.now) (g.K.Sink.failures c.args.sink.now) c.loop.reader (g.S.Source.left c.loop.source) (g.K.Sink.written c.loop.sink) c.loop.calls (g.S.Source.failures c.loop.source) (g.K.Sink.failures c.loop.sink) c.loop.invariant.2 (g.K.Sink.written c.send.new.self) (g.K.Sink.sent c.send.new.self) c.in_default.ensures.kept (g.met.K.Sink.begins c.send.new.self);
  counted = subst (λ n. n < g.K.Sink.failures c.send.new.self) c.loop.invariant.2.same_writes c.in_default.ensures.failed;
}

pub returns-in_default-read : goal.returns-in_default-read
returns-in_default-read g c =
    let s = sent_on g.C.Calls.steps (g.S.Source.left c.args.source.now) (g.K.Sink.written c.args.sink.now) c.args.calls.now (g.S.Source.failures c.args.source.now) (g.K.Sink.failures c.args.sink.now) c.loop.reader (g.S.Source.left c.loop.source) (g.K.Sink.written c.loop.sink) c.loop.calls (g.S.Source.failures c.loop.source) (g.K.Sink.failures c.loop.sink) c.loop.invariant.2 (g.K.Sink.written c.send.new.self) (g.K.Sink.failures c.send.new.self) c.in-Ok.ensures.kept c.in-Ok.ensures.ok in
    record {
      served = ends_unread g.C.Calls.steps (g.S.Source.left c.args.source.now) (g.K.Sink.written c.args.sink.now) c.args.calls.now (g.S.Source.failures c.args.source.now) (g.K.Sink.failures c.args.sink.now) c.loop.reader (g.S.Source.left c.loop.source) (g.K.Sink.written c.send.new.self) c.loop.calls (g.S.Source.failures c.loop.source) (g.K.Sink.failures c.send.new.self) s (g.S.Source.left c.read.new.self) (g.K.Sink.sent c.send.new.self) c.in_default-read.ensures.err c.in-Ok.ensures.all;
      counted = subst (λ n. n < g.S.Source.failures c.read.new.self) c.loop.invariant.2.same_reads c.in_default-read.ensures.failed;
    }

pub returns-in_default-feed : goal.returns-in_default-feed
returns-in_default-feed g c =
    let s = sent_on g.C.Calls.steps (g.S.Source.left c.args.source.now) (g.K.Sink.written c.args.sink.now) c.args.calls.now (g.S.Source.failures c.args.source.now) (g.K.Sink.failures c.args.sink.now) c.loop.reader (g.S.Source.left c.loop.source) (g.K.Sink.written c.loop.sink) c.loop.calls (g.S.Source.failures c.loop.source) (g.K.Sink.failures c.loop.sink) c.loop.invariant.2 (g.K.Sink.written c.send.new.self) (g.K.Sink.failures c.send.new.self) c.in-Ok.ensures.kept c.in-Ok.ensures.ok in
    let short : length (take c.in-Ok-read.len c.read.new.buffer) ≤ PIECE = omega (arith, length-take c.in-Ok-read.len c.read.new.buffer) in
    record {
      served = ends_unfed g.C.Calls.steps (g.S.Source.left c.args.source.now) (g.K.Sink.written c.args.sink.now) c.args.calls.now (g.S.Source.failures c.args.source.now) (g.K.Sink.failures c.args.sink.now) c.loop.reader (g.S.Source.left c.loop.source) (g.K.Sink.written c.send.new.self) c.loop.calls (g.S.Source.failures c.loop.source) (g.K.Sink.failures c.send.new.self) s (take c.in-Ok-read.len c.read.new.buffer) (g.S.Source.left c.read.new.self) (g.K.Sink.sent c.send.new.self) c.in-Ok-read.ensures.bytes short (g.met.K.Sink.begins c.send.new.self);
      counted = tt;
    }

pub returns-in-Some-2 : goal.returns-in-Some-2
returns-in-Some-2 g c =
    let s = sent_on g.C.Calls.steps (g.S.Source.left c.args.source.now) (g.K.Sink.written c.args.sink.now) c.args.calls.now (g.S.Source.failures c.args.source.now) (g.K.Sink.failures c.args.sink.now) c.loop.reader (g.S.Source.left c.loop.source) (g.K.Sink.written c.loop.sink) c.loop.calls (g.S.Source.failures c.loop.source) (g.K.Sink.failures c.loop.sink) c.loop.invariant.2 (g.K.Sink.written c.send.new.self) (g.K.Sink.failures c.send.new.self) c.in-Ok.ensures.kept c.in-Ok.ensures.ok in
    let nothing : take c.in-Ok-read.len c.read.new.buffer ≡ [] = ap (λ (n : ℕ). take n c.read.new.buffer) c.if-len-eq0.true in
    let short : length (take c.in-Ok-read.len c.read.new.buffer) ≤ PIECE = omega (arith, ap length nothing) in
    let at : EndsOnlyAt c.finish.new.self.ended (g.S.Source.left c.read.new.self) = λ _. c.in-Ok-read.ensures.end c.if-len-eq0.true in
    let h = end_handed s.text (requests_called s.done) (take c.in-Ok-read.len c.read.new.buffer) c.loop.reader c.finish.new.self nothing s.read s.fault_free c.finish.ensures.ended c.finish.ensures.grammar in
    record {
      served = ends_fault g.C.Calls.steps (g.S.Source.left c.args.source.now) (g.K.Sink.written c.args.sink.now) c.args.calls.now (g.S.Source.failures c.args.source.now) (g.K.Sink.failures c.args.sink.now) c.loop.reader (g.S.Source.left c.loop.source) (g.K.Sink.written c.send.new.self) c.loop.calls (g.S.Source.failures c.loop.source) (g.K.Sink.failures c.send.new.self) s (take c.in-Ok-read.len c.read.new.buffer) (g.S.Source.left c.read.new.self) c.finish.new.self c.answer_all.new.calls c.answer_all.new.reader (g.K.Sink.written c.answer_all.new.sink) c.in_ok-last.field-0 c.in-Some-2.last c.conclude.result (g.K.Sink.sent c.conclude.new.sink) (g.K.Sink.written c.conclude.new.sink) _ _ c.in-Ok-read.ensures.bytes short at h c.in_ok-last.ensures.ok c.in-Some-2.is (record { kept = c.conclude.ensures.kept; ok = c.conclude.ensures.ok; err = c.conclude.ensures.err; begins = g.met.K.Sink.begins c.conclude.new.sink });
      counted = counted_end c.conclude.result (g.S.Source.failures c.args.source.now) (g.S.Source.failures c.read.new.self) (g.K.Sink.failures c.args.sink.now) (g.K.Sink.failures c.answer_all.new.sink) (g.K.Sink.failures c.conclude.new.sink) (c.in_ok-last.ensures.same ∙ s.same_writes) c.conclude.ensures.err;
    }

pub returns-then-len-eq0 : goal.returns-then-len-eq0
returns-then-len-eq0 g c =
    let s = sent_on g.C.Calls.steps (g.S.Source.left c.args.source.now) (g.K.Sink.written c.args.sink.now) c.args.calls.now (g.S.Source.failures c.args.source.now) (g.K.Sink.failures c.args.sink.now) c.loop.reader (g.S.Source.left c.loop.source) (g.K.Sink.written c.loop.sink) c.loop.calls (g.S.Source.failures c.loop.source) (g.K.Sink.failures c.loop.sink) c.loop.invariant.2 (g.K.Sink.written c.send.new.self) (g.K.Sink.failures c.send.new.self) c.in-Ok.ensures.kept c.in-Ok.ensures.ok in
    let nothing : take c.in-Ok-read.len c.read.new.buffer ≡ [] = ap (λ (n : ℕ). take n c.read.new.buffer) c.if-len-eq0.true in
    let short : length (take c.in-Ok-read.len c.read.new.buffer) ≤ PIECE = omega (arith, ap length nothing) in
    let h = end_handed s.text (requests_called s.done) (take c.in-Ok-read.len c.read.new.buffer) c.loop.reader c.finish.new.self nothing s.read s.fault_free c.finish.ensures.ended c.finish.ensures.grammar in
    record {
      served = ends_input g.C.Calls.steps (g.S.Source.left c.args.source.now) (g.K.Sink.written c.args.sink.now) c.args.calls.now (g.S.Source.failures c.args.source.now) (g.K.Sink.failures c.args.sink.now) c.loop.reader (g.S.Source.left c.loop.source) (g.K.Sink.written c.send.new.self) c.loop.calls (g.S.Source.failures c.loop.source) (g.K.Sink.failures c.send.new.self) s (take c.in-Ok-read.len c.read.new.buffer) (g.S.Source.left c.read.new.self) c.finish.new.self c.answer_all.new.calls c.answer_all.new.reader (g.K.Sink.written c.answer_all.new.sink) c.in_ok-last.field-0 c.conclude-then-len-eq0.result (g.K.Sink.sent c.conclude-then-len-eq0.new.sink) (g.K.Sink.written c.conclude-then-len-eq0.new.sink) _ _ c.in-Ok-read.ensures.bytes short (c.in-Ok-read.ensures.end c.if-len-eq0.true) h c.finish.ensures.ended c.in_ok-last.ensures.ok c.in_default-2.is (record { kept = c.conclude-then-len-eq0.ensures.kept; ok = c.conclude-then-len-eq0.ensures.ok; err = c.conclude-then-len-eq0.ensures.err; begins = g.met.K.Sink.begins c.conclude-then-len-eq0.new.sink });
      counted = counted_end c.conclude-then-len-eq0.result (g.S.Source.failures c.args.source.now) (g.S.Source.failures c.read.new.self) (g.K.Sink.failures c.args.sink.now) (g.K.Sink.failures c.answer_all.new.sink) (g.K.Sink.failures c.conclude-then-len-eq0.new.sink) (c.in_ok-last.ensures.same ∙ s.same_writes) c.conclude-then-len-eq0.ensures.err;
    }

pub returns-in_err-last : goal.returns-in_err-last
returns-in_err-last g c =
    let s = sent_on g.C.Calls.steps (g.S.Source.left c.args.source.now) (g.K.Sink.written c.args.sink.now) c.args.calls.now (g.S.Source.failures c.args.source.now) (g.K.Sink.failures c.args.sink.now) c.loop.reader (g.S.Source.left c.loop.source) (g.K.Sink.written c.loop.sink) c.loop.calls (g.S.Source.failures c.loop.source) (g.K.Sink.failures c.loop.sink) c.loop.invariant.2 (g.K.Sink.written c.send.new.self) (g.K.Sink.failures c.send.new.self) c.in-Ok.ensures.kept c.in-Ok.ensures.ok in
    let nothing : take c.in-Ok-read.len c.read.new.buffer ≡ [] = ap (λ (n : ℕ). take n c.read.new.buffer) c.if-len-eq0.true in
    let short : length (take c.in-Ok-read.len c.read.new.buffer) ≤ PIECE = omega (arith, ap length nothing) in
    let at : EndsOnlyAt c.finish.new.self.ended (g.S.Source.left c.read.new.self) = λ _. c.in-Ok-read.ensures.end c.if-len-eq0.true in
    let h = end_handed s.text (requests_called s.done) (take c.in-Ok-read.len c.read.new.buffer) c.loop.reader c.finish.new.self nothing s.read s.fault_free c.finish.ensures.ended c.finish.ensures.grammar in
    let p = err_from_is_err_and c.from_residual.result c.from_residual.ensures.1 in
    record {
      served = rw (p.1, p.2) (ends_broken g.C.Calls.steps (g.S.Source.left c.args.source.now) (g.K.Sink.written c.args.sink.now) c.args.calls.now (g.S.Source.failures c.args.source.now) (g.K.Sink.failures c.args.sink.now) c.loop.reader (g.S.Source.left c.loop.source) (g.K.Sink.written c.send.new.self) c.loop.calls (g.S.Source.failures c.loop.source) (g.K.Sink.failures c.send.new.self) s (take c.in-Ok-read.len c.read.new.buffer) (g.S.Source.left c.read.new.self) c.finish.new.self c.answer_all.new.calls (g.K.Sink.written c.answer_all.new.sink) (g.K.Sink.sent c.answer_all.new.sink) c.in_err-last.field-0.0 _ _ c.in-Ok-read.ensures.bytes short at h c.in_err-last.ensures.err c.in_err-last.ensures.counted (g.met.K.Sink.begins c.answer_all.new.sink));
      counted = rw (p.1, p.2) (counted_broken c.in_err-last.field-0.0 (g.S.Source.failures c.args.source.now) (g.S.Source.failures c.read.new.self) (g.K.Sink.failures c.args.sink.now) (g.K.Sink.failures c.send.new.self) (g.K.Sink.failures c.answer_all.new.sink) s.same_writes c.in_err-last.ensures.counted);
    }

pub returns-in-Some-3 : goal.returns-in-Some-3
returns-in-Some-3 g c =
    let s = sent_on g.C.Calls.steps (g.S.Source.left c.args.source.now) (g.K.Sink.written c.args.sink.now) c.args.calls.now (g.S.Source.failures c.args.source.now) (g.K.Sink.failures c.args.sink.now) c.loop.reader (g.S.Source.left c.loop.source) (g.K.Sink.written c.loop.sink) c.loop.calls (g.S.Source.failures c.loop.source) (g.K.Sink.failures c.loop.sink) c.loop.invariant.2 (g.K.Sink.written c.send.new.self) (g.K.Sink.failures c.send.new.self) c.in-Ok.ensures.kept c.in-Ok.ensures.ok in
    let short : length (take c.in-Ok-read.len c.read.new.buffer) ≤ PIECE = omega (arith, length-take c.in-Ok-read.len c.read.new.buffer) in
    let at = not_ended_at (g.S.Source.left c.read.new.self) c.feed.new.self.ended (c.in-Ok-feed.ensures.fed.1 ∙ s.not_ended) in
    let h = fed_handed s.text (requests_called s.done) (take c.in-Ok-read.len c.read.new.buffer) _ c.loop.reader c.feed.new.self refl s.read s.fault_free c.in-Ok-feed.ensures.fed c.in-Ok-feed.ensures.grammar in
    record {
      served = ends_fault g.C.Calls.steps (g.S.Source.left c.args.source.now) (g.K.Sink.written c.args.sink.now) c.args.calls.now (g.S.Source.failures c.args.source.now) (g.K.Sink.failures c.args.sink.now) c.loop.reader (g.S.Source.left c.loop.source) (g.K.Sink.written c.send.new.self) c.loop.calls (g.S.Source.failures c.loop.source) (g.K.Sink.failures c.send.new.self) s (take c.in-Ok-read.len c.read.new.buffer) (g.S.Source.left c.read.new.self) c.feed.new.self c.answer_all-in-loop.new.calls c.answer_all-in-loop.new.reader (g.K.Sink.written c.answer_all-in-loop.new.sink) c.in_ok-fault.field-0 c.in-Some-3.fault c.conclude-in-Some-3.result (g.K.Sink.sent c.conclude-in-Some-3.new.sink) (g.K.Sink.written c.conclude-in-Some-3.new.sink) _ _ c.in-Ok-read.ensures.bytes short at h c.in_ok-fault.ensures.ok c.in-Some-3.is (record { kept = c.conclude-in-Some-3.ensures.kept; ok = c.conclude-in-Some-3.ensures.ok; err = c.conclude-in-Some-3.ensures.err; begins = g.met.K.Sink.begins c.conclude-in-Some-3.new.sink });
      counted = counted_end c.conclude-in-Some-3.result (g.S.Source.failures c.args.source.now) (g.S.Source.failures c.read.new.self) (g.K.Sink.failures c.args.sink.now) (g.K.Sink.failures c.answer_all-in-loop.new.sink) (g.K.Sink.failures c.conclude-in-Some-3.new.sink) (c.in_ok-fault.ensures.same ∙ s.same_writes) c.conclude-in-Some-3.ensures.err;
    }

pub returns-in_err-fault : goal.returns-in_err-fault
returns-in_err-fault g c =
    let s = sent_on g.C.Calls.steps (g.S.Source.left c.args.source.now) (g.K.Sink.written c.args.sink.now) c.args.calls.now (g.S.Source.failures c.args.source.now) (g.K.Sink.failures c.args.sink.now) c.loop.reader (g.S.Source.left c.loop.source) (g.K.Sink.written c.loop.sink) c.loop.calls (g.S.Source.failures c.loop.source) (g.K.Sink.failures c.loop.sink) c.loop.invariant.2 (g.K.Sink.written c.send.new.self) (g.K.Sink.failures c.send.new.self) c.in-Ok.ensures.kept c.in-Ok.ensures.ok in
    let short : length (take c.in-Ok-read.len c.read.new.buffer) ≤ PIECE = omega (arith, length-take c.in-Ok-read.len c.read.new.buffer) in
    let at = not_ended_at (g.S.Source.left c.read.new.self) c.feed.new.self.ended (c.in-Ok-feed.ensures.fed.1 ∙ s.not_ended) in
    let h = fed_handed s.text (requests_called s.done) (take c.in-Ok-read.len c.read.new.buffer) _ c.loop.reader c.feed.new.self refl s.read s.fault_free c.in-Ok-feed.ensures.fed c.in-Ok-feed.ensures.grammar in
    let p = err_from_is_err_and c.from_residual-in_err-fault.result c.from_residual-in_err-fault.ensures.1 in
    record {
      served = rw (p.1, p.2) (ends_broken g.C.Calls.steps (g.S.Source.left c.args.source.now) (g.K.Sink.written c.args.sink.now) c.args.calls.now (g.S.Source.failures c.args.source.now) (g.K.Sink.failures c.args.sink.now) c.loop.reader (g.S.Source.left c.loop.source) (g.K.Sink.written c.send.new.self) c.loop.calls (g.S.Source.failures c.loop.source) (g.K.Sink.failures c.send.new.self) s (take c.in-Ok-read.len c.read.new.buffer) (g.S.Source.left c.read.new.self) c.feed.new.self c.answer_all-in-loop.new.calls (g.K.Sink.written c.answer_all-in-loop.new.sink) (g.K.Sink.sent c.answer_all-in-loop.new.sink) c.in_err-fault.field-0.0 _ _ c.in-Ok-read.ensures.bytes short at h c.in_err-fault.ensures.err c.in_err-fault.ensures.counted (g.met.K.Sink.begins c.answer_all-in-loop.new.sink));
      counted = rw (p.1, p.2) (counted_broken c.in_err-fault.field-0.0 (g.S.Source.failures c.args.source.now) (g.S.Source.failures c.read.new.self) (g.K.Sink.failures c.args.sink.now) (g.K.Sink.failures c.send.new.self) (g.K.Sink.failures c.answer_all-in-loop.new.sink) s.same_writes c.in_err-fault.ensures.counted);
    }

pub loop-preserved : goal.loop-preserved
loop-preserved g c =
    let s = sent_on g.C.Calls.steps (g.S.Source.left c.args.source.now) (g.K.Sink.written c.args.sink.now) c.args.calls.now (g.S.Source.failures c.args.source.now) (g.K.Sink.failures c.args.sink.now) c.loop.reader (g.S.Source.left c.loop.source) (g.K.Sink.written c.loop.sink) c.loop.calls (g.S.Source.failures c.loop.source) (g.K.Sink.failures c.loop.sink) c.loop.invariant.2 (g.K.Sink.written c.send.new.self) (g.K.Sink.failures c.send.new.self) c.in-Ok.ensures.kept c.in-Ok.ensures.ok in
    let h = fed_handed s.text (requests_called s.done) (take c.in-Ok-read.len c.read.new.buffer) _ c.loop.reader c.feed.new.self refl s.read s.fault_free c.in-Ok-feed.ensures.fed c.in-Ok-feed.ensures.grammar in
    (tt, tt, serving_on g.C.Calls.steps (g.S.Source.left c.args.source.now) (g.K.Sink.written c.args.sink.now) c.args.calls.now (g.S.Source.failures c.args.source.now) (g.K.Sink.failures c.args.sink.now) c.loop.reader (g.S.Source.left c.loop.source) (g.K.Sink.written c.send.new.self) c.loop.calls (g.S.Source.failures c.loop.source) (g.K.Sink.failures c.send.new.self) s (take c.in-Ok-read.len c.read.new.buffer) (g.S.Source.left c.read.new.self) c.feed.new.self c.answer_all-in-loop.new.calls c.answer_all-in-loop.new.reader (g.K.Sink.written c.answer_all-in-loop.new.sink) c.in_ok-fault.field-0 (g.S.Source.failures c.read.new.self) (g.K.Sink.failures c.answer_all-in-loop.new.sink) c.in-Ok-read.ensures.bytes h (c.in-Ok-feed.ensures.fed.1 ∙ s.not_ended) c.in_ok-fault.ensures.ok c.in_default-3.is c.in-Ok-read.ensures.ok c.in_ok-fault.ensures.same)

pub answer_all-requires : goal.answer_all-requires
answer_all-requires g c = ap (λ r. r.returned) c.finish.ensures.ended ∙ c.loop.invariant.2.fault_free

pub answer_all-requires-in-loop : goal.answer_all-requires-in-loop
answer_all-requires-in-loop g c = c.in-Ok-feed.ensures.fed.0 ∙ c.loop.invariant.2.fault_free
