use Rattle.std.proofs.Common.{◌≡◌, ℕ, ◌<◌, length, take, slice_get, sym, ap, ◌∙◌, add-one, arith}
use Rattle.std.proofs.Math.Seq.{take-length}
use Rattle.std.proofs.lemmas.List.{length-take-le}
use Rattle.std.specs.Option.{option_eq}
use Rattle.trace_model.specs.Protocol.Machine.{same_event}
use Rattle.trace_model.specs.Theory.Trace.{Trace}
use Rattle.trace_model.proofs.Lists.{get-take}
use Rattle.sequencer.proofs.QuestionAnswers.{is_at, other_events, other_at, same_at, same_all}
use Rattle.sequencer.proofs.delivering.is_of.Goals as goal

-- the first n events have the same event at the place
at_first : (s all : Trace) (n i : ℕ) → i < n → option_eq same_event (slice_get s i) (slice_get all i) ≡ is_at s (take n all) i
at_first s all n i l = ap (option_eq same_event (slice_get s i)) (sym (get-take n all i l))

pub returns-then-len-count : goal.returns-then-len-count
returns-then-len-count c =
    let r = take c.args.count c.args.recorder.now.events in
    let few = length-take-le c.args.count c.args.recorder.now.events c.requires in
    other_events c.args.snapshot.now r (λ same. let long = ap length same in absurd (omega (arith, long, few, c.len.ensures.length, c.if-len-count.true)))

pub returns-then-not-is_at : goal.returns-then-not-is_at
returns-then-not-is_at c =
    let all = c.args.recorder.now.events in
    let i = c.loop-index.index in
    let few = length-take-le c.args.count all c.requires in
    other_at c.args.snapshot.now (take c.args.count all) i (omega (arith, few)) (c.if-not-is_at.ensures ∙ at_first c.args.snapshot.now all c.args.count i (omega arith))

pub loop-index-preserved : goal.loop-index-preserved
loop-index-preserved c =
    let all = c.args.recorder.now.events in
    let s = c.args.snapshot.now in
    let i = c.loop-index.index in
    let few = length-take-le c.args.count all c.requires in
    let long : length s ≡ length (take c.args.count all) = omega (arith, few, c.len.ensures.length, c.if-len-count.false) in
    rw add-one (same_at s (take c.args.count all) i long (omega (arith, few)) c.loop-index.invariant (c.if-not-is_at.ensures ∙ at_first s all c.args.count i (omega arith)))

pub returns : goal.returns
returns c =
    let s = c.args.snapshot.now in
    let r = take c.args.count c.args.recorder.now.events in
    let i = c.loop-index.index in
    let few = length-take-le c.args.count c.args.recorder.now.events c.requires in
    let end : i ≡ length r = omega (arith, few) in
    let long : i ≡ length s = omega (arith, c.len.ensures.length, c.if-len-count.false) in
    let whole : s ≡ r =
    sym (take-length s) ∙ (ap (λ n. take n s) (sym long) ∙ (c.loop-index.invariant ∙ (ap (λ n. take n r) end ∙ take-length r))) in
    same_all s r whole
