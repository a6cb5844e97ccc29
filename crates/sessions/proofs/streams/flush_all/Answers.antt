use Rattle.sessions.proofs.Puts.{kept_none, kept_then}
use Rattle.sessions.proofs.streams.flush_all.Goals as goal

pub loop-init : goal.loop-init
loop-init g c = (tt, tt, kept_none (g.O.Write.contents c.args.writer.now))

pub loop-preserved : goal.loop-preserved
loop-preserved g c =
    (tt, tt, kept_then (g.O.Write.contents c.args.writer.now) (g.O.Write.contents c.loop.writer) (g.O.Write.contents c.flush.new.self) c.loop.invariant.2 c.flush.ensures.bytes)

pub returns-in-Ok : goal.returns-in-Ok
returns-in-Ok g c =
    kept_then (g.O.Write.contents c.args.writer.now) (g.O.Write.contents c.loop.writer) (g.O.Write.contents c.flush.new.self) c.loop.invariant.2 c.flush.ensures.bytes

pub returns-then-ne : goal.returns-then-ne
returns-then-ne g c =
    kept_then (g.O.Write.contents c.args.writer.now) (g.O.Write.contents c.loop.writer) (g.O.Write.contents c.flush.new.self) c.loop.invariant.2 c.flush.ensures.bytes
