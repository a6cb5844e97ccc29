use Rattle.std.proofs.Common.{◌≡◌, ℕ, ◌-◌, List, length, take, drop, Ok, None, sym, ap, subst, ◌∙◌, ◌++◌, arith}
use Rattle.std.proofs.lemmas.List.{length-drop}
use Rattle.trace_model.specs.Protocol.Frames.{frame, leading_of, cut_fault}
use Rattle.event_frames.specs.Leading.{IsLeading}
use Rattle.event_frames.proofs.ReadFrames.{rest_at, tells_header, tells_cut, awaits, takes, cut_none, cut_nil}
use Rattle.event_frames.proofs.reader.FrameReader.read_frame.Goals as goal
use Rattle.event_frames.proofs.reader.FrameReader.read_frame.Goals.{else-self-via-then-self+else-self-len, else-self-via-else-self}

pub returns-in-Err : goal.returns-in-Err
returns-in-Err c =
    let i = c.self.inside in
    let at = rest_at c.deref.result.now i.bytes.items i.start c.deref.ensures.value in
    let f = subst (λ r. IsLeading (take (length c.deref.result.now - i.start) (drop i.start c.deref.result.now)) r) c.in-Err.is c.leading.ensures in
    tells_header (drop i.start i.bytes.items) i.ended i.returned _ _ c.in-Err.fault c.args.self.now c.fail.new.self c.self.view_is c.in_default.is (ap leading_of (sym at) ∙ f) c.fail.ensures

pub returns-in-Ok-Some : goal.returns-in-Ok-Some
returns-in-Ok-Some c =
    let i = c.self.inside in
    let at = rest_at c.deref.result.now i.bytes.items i.start c.deref.ensures.value in
    let f = subst (λ r. IsLeading (take (length c.deref.result.now - i.start) (drop i.start c.deref.result.now)) r) (c.in-Ok-Some.is ∙ ap Ok c.in-Ok-Some.field-0-is) c.leading.ensures in
    let g = subst (λ (b : List ℕ). b ≡ frame c.in-Ok-Some.request ++ drop c.in-Ok-Some.len b) at f.1 in
    takes i.bytes.items i.start c.in-Ok-Some.len i.ended i.returned _ _ c.in-Ok-Some.request c.args.self.now c.self.view_is c.in_default.is f.0 g

pub returns-then-self-len : goal.returns-then-self-len
returns-then-self-len c =
    let i = c.self.inside in
    let at = rest_at c.deref.result.now i.bytes.items i.start c.deref.ensures.value in
    let f = subst (λ r. IsLeading (take (length c.deref.result.now - i.start) (drop i.start c.deref.result.now)) r) (c.in-Ok-None.is ∙ ap Ok c.in-Ok-None.field-0-is) c.leading.ensures in
    tells_cut (drop i.start i.bytes.items) i.ended i.returned _ _ c.args.self.now c.fail-then-self-len.new.self c.self.view_is c.in_default.is (ap leading_of (sym at) ∙ f) c.if-self.true (omega (arith, length-drop i.start i.bytes.items, i.bytes.ok.0)) c.fail-then-self-len.ensures

pub returns-else-self : goal.returns-else-self
returns-else-self c =
    let i = c.self.inside in
    let at = rest_at c.deref.result.now i.bytes.items i.start c.deref.ensures.value in
    let f = subst (λ r. IsLeading (take (length c.deref.result.now - i.start) (drop i.start c.deref.result.now)) r) (c.in-Ok-None.is ∙ ap Ok c.in-Ok-None.field-0-is) c.leading.ensures in
    let uncut : cut_fault (drop i.start i.bytes.items) i.ended ≡ None = elim c.else-self.branch [
      | else-self-via-then-self+else-self-len w ↦ cut_nil (drop i.start i.bytes.items) i.ended (omega (arith, length-drop i.start i.bytes.items, i.bytes.ok.0))
      | else-self-via-else-self w ↦ cut_none (drop i.start i.bytes.items) i.ended w.if-self.false
    ] in
    awaits (drop i.start i.bytes.items) i.ended i.returned _ _ c.args.self.now c.compact.new.self c.self.view_is c.in_default.is (ap leading_of (sym at) ∙ f) uncut c.compact.ensures
