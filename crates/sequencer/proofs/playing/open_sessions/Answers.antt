use Rattle.std.proofs.Common.{List, length, sym, ap, subst, arith}
use Rattle.std.proofs.lemmas.List.Elements.{All-push}
use Rattle.trace_model.proofs.Lists.{length-push}
use Rattle.event_frames.specs.Reader.{FrameReaderView}
use Rattle.sequencer.specs.Drains.{AreNew, IsNew}
use Rattle.sequencer.specs.declared.playing.PlayedSession.{PlayedSession}
use Rattle.sequencer.proofs.playing.open_sessions.Goals as goal

pub loop-preserved : goal.loop-preserved
loop-preserved c =
    let items = c.in_ok-push.ensures.items in
    let session : PlayedSession = record { reader = c.new.result; sent = c.new-in-loop.result } in
    let made = c.new.ensures.made in
    let is : IsNew session = record {
      read = c.new.ensures.grammar;
      not_ended = ap (λ (r : FrameReaderView). r.ended) made;
      fault_free = ap (λ (r : FrameReaderView). r.returned) made;
      unsent = c.new-in-loop.ensures.items;
    } in (
      omega (arith, ap (λ (xs : List PlayedSession). length xs) items, length-push c.loop.sessions.items session, c.loop.invariant.0),
      subst AreNew (sym items) (All-push IsNew c.loop.sessions.items session c.loop.invariant.1 is),
    )
