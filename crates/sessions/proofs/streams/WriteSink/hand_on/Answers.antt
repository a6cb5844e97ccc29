use Rattle.std.proofs.Common.{refl, arith}
use Rattle.sessions.specs.Pending.{buffered_bytes}
use Rattle.sessions.proofs.Buffered.{handed_on}
use Rattle.sessions.proofs.Puts.{kept_beside}
use Rattle.sessions.proofs.streams.WriteSink.hand_on.Goals as goal

pub returns-in-Ok : goal.returns-in-Ok
returns-in-Ok g c =
    let s = c.args.self.now in
    record {
      kept = handed_on (g.O.Write.contents s.inner) (g.O.Write.contents c.write_from.new.writer) s.buffer s.start s.end c.in-Ok.count c.in-Ok.ensures.bytes;
      end = refl;
      ok = (omega (arith, c.in-Ok.ensures.count.0), refl);
      failed = tt;
    }

pub returns-in-Err : goal.returns-in-Err
returns-in-Err g c =
    let s = c.args.self.now in
    record {
      kept = kept_beside (g.O.Write.contents s.inner) (g.O.Write.contents c.write_from.new.writer) (buffered_bytes s.buffer s.start s.end) c.in-Err.ensures.err;
      end = refl;
      ok = tt;
      failed = c.count_failure-self.ensures;
    }
