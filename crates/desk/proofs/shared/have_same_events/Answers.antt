use Rattle.std.proofs.Common.{◌≡◌, true, take, length, slice_get, sym, ap, subst, ◌∙◌, add-one, arith}
use Rattle.std.specs.Option.{option_eq}
use Rattle.trace_model.specs.Protocol.Machine.{same_event}
use Rattle.std.proofs.Math.Seq.{take-length}
use Rattle.sequencer.proofs.QuestionAnswers.{same_at}
use Rattle.desk.proofs.shared.have_same_events.Goals as goal

pub loop-index-preserved : goal.loop-index-preserved
loop-index-preserved c =
    let s = c.args.first.now in
    let r = c.args.second.now in
    let long : length s ≡ length r = omega (arith, c.len.ensures.length, c.if-len.false, c.len-len.ensures.length) in
    rw add-one (same_at s r c.loop-index.index long (omega arith) c.loop-index.invariant (subst (λ p. true ≡ option_eq same_event (slice_get s p) (slice_get r p)) c.new.ensures c.if-not-have_same_event.ensures))

pub returns : goal.returns
returns c same_all =
    let s = c.args.first.now in
    let r = c.args.second.now in
    let i = c.loop-index.index in
    let end : i ≡ length s = omega arith in
    let same : i ≡ length r = omega arith in
    sym (take-length s) ∙ (ap (λ n. take n s) (sym end) ∙ (c.loop-index.invariant ∙ (ap (λ n. take n r) same ∙ take-length r)))
