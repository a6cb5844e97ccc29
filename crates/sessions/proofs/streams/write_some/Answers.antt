use Rattle.std.proofs.Common.{arith, subst, take}
use Rattle.std.specs.Io.KnownBytes.{Appends}
use Rattle.sessions.proofs.Puts.{kept_none, kept_put, kept_then, nothing_put}
use Rattle.sessions.proofs.streams.write_some.Goals as goal

pub loop-init : goal.loop-init
loop-init g c = (tt, tt, kept_none (g.O.Write.contents c.args.writer.now))

pub loop-preserved : goal.loop-preserved
loop-preserved g c =
    (tt, tt, kept_then (g.O.Write.contents c.args.writer.now) (g.O.Write.contents c.loop.writer) (g.O.Write.contents c.write.new.self) c.loop.invariant.2 c.in-Err.ensures.bytes)

pub returns-in-Ok : goal.returns-in-Ok
returns-in-Ok g c = record {
  count = (omega (arith, c.if-count-eq0.false), c.in-Ok.ensures.bound);
  bytes = kept_put (g.O.Write.contents c.args.writer.now) (g.O.Write.contents c.loop.writer) (g.O.Write.contents c.write.new.self) (take c.in-Ok.count c.args.bytes.now) c.loop.invariant.2 c.in-Ok.ensures.bytes;
  err = tt;
}

pub returns-then-count-eq0 : goal.returns-then-count-eq0
returns-then-count-eq0 g c =
    let was = g.O.Write.contents c.loop.writer in
    let now = g.O.Write.contents c.write.new.self in
    let same = nothing_put was now (subst (λ n. Appends was now (take n c.args.bytes.now)) c.if-count-eq0.true c.in-Ok.ensures.bytes) in
    record { count = tt; bytes = tt; err = kept_then (g.O.Write.contents c.args.writer.now) was now c.loop.invariant.2 same }

pub returns-then-ne : goal.returns-then-ne
returns-then-ne g c = record {
  count = tt;
  bytes = tt;
  err = kept_then (g.O.Write.contents c.args.writer.now) (g.O.Write.contents c.loop.writer) (g.O.Write.contents c.write.new.self) c.loop.invariant.2 c.in-Err.ensures.bytes;
}
