use Rattle.std.proofs.Common.{arith, take}
use Rattle.sessions.proofs.Puts.{kept_none, kept_then, kept_took}
use Rattle.sessions.proofs.streams.read_some.Goals as goal

pub loop-init : goal.loop-init
loop-init g c = (tt, tt, kept_none (g.I.Read.remaining c.args.reader.now))

pub loop-preserved : goal.loop-preserved
loop-preserved g c =
    (tt, tt, kept_then (g.I.Read.remaining c.args.reader.now) (g.I.Read.remaining c.loop.reader) (g.I.Read.remaining c.read.new.self) c.loop.invariant.2 c.in-Err.ensures.bytes)

pub returns-in-Ok : goal.returns-in-Ok
returns-in-Ok g c = record {
  count = c.in-Ok.ensures.bound.0;
  bytes = kept_took (g.I.Read.remaining c.args.reader.now) (g.I.Read.remaining c.loop.reader) (g.I.Read.remaining c.read.new.self) (take c.in-Ok.count c.read.new.buf) c.loop.invariant.2 c.in-Ok.ensures.bytes.0;
  end = λ e. c.in-Ok.ensures.bytes.1 e (omega (arith, c.requires, c.loop.auto.buffer, c.read.auto.buf));
  err = tt;
}

pub returns-then-ne : goal.returns-then-ne
returns-then-ne g c = record {
  count = tt;
  bytes = tt;
  end = tt;
  err = kept_then (g.I.Read.remaining c.args.reader.now) (g.I.Read.remaining c.loop.reader) (g.I.Read.remaining c.read.new.self) c.loop.invariant.2 c.in-Err.ensures.bytes;
}
