use Rattle.std.proofs.Common.{◌+◌, ◌-◌, length, arith, take, ap}
use Rattle.std.proofs.lemmas.List.{length-take}
use Rattle.sessions.proofs.Buffered.{buffer_more}
use Rattle.sessions.proofs.streams.WriteSink.buffer_some.Goals as goal

pub returns-clause-buffered : goal.returns-clause-buffered
returns-clause-buffered g c =
    let s = c.args.self.now in
    let n = c.min-count.result in
    buffer_more s.buffer c.copy_from_slice.new.self (take n c.args.bytes.now) s.start s.end ((s.end + n) - s.end) n (omega arith) (omega arith) c.copy_from_slice.ensures.after (omega (arith, ap length c.copy_from_slice.ensures.after, length-take n c.args.bytes.now, c.min-count.ensures))
